use Rattle.std.proofs.Common.{◌≡◌}
use Rattle.placements.proofs.Loops.{zipped}
use Rattle.greedy.specs.Rounds.{placed}
use Rattle.greedy.proofs.eight.place_lines.Given as goal

abbrev pub invariant-loop-i : goal.invariant-loop-i
invariant-loop-i l = l.plan ≡ zipped (placed l.tip) l.i l.left l.initial.plan
