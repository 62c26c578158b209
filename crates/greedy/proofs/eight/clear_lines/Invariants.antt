use Rattle.std.proofs.Common.{◌≡◌}
use Rattle.model.proofs.Loops.{mapped}
use Rattle.greedy.specs.Rounds.{cleared}
use Rattle.greedy.proofs.eight.clear_lines.Given as goal

abbrev pub invariant-loop-set : goal.invariant-loop-set
invariant-loop-set l = l.left ≡ mapped (cleared l.tip) l.set-index l.initial.left
