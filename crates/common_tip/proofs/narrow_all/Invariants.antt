use Rattle.std.proofs.Common.{◌≡◌}
use Rattle.model.proofs.Loops.{mapped}
use Rattle.common_tip.specs.Common.{narrow_by}
use Rattle.common_tip.proofs.narrow_all.Given as goal

abbrev pub invariant-loop-set : goal.invariant-loop-set
invariant-loop-set l = l.lines ≡ mapped (narrow_by l.v) l.set-index l.initial.lines
