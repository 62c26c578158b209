use Rattle.std.proofs.Common.{◌≡◌}
use Rattle.placements.proofs.Loops.{zipped}
use Rattle.common_tip.specs.Common.{kept_by}
use Rattle.common_tip.proofs.prune.Given as goal

abbrev pub invariant-loop-i : goal.invariant-loop-i
invariant-loop-i l = l.lines ≡ zipped (kept_by l.v l.margin) l.i l.quantities l.initial.lines
