use Rattle.greedy.proofs.FewTips.{CountedTo}
use Rattle.greedy.proofs.eight.count_lines.Given as goal

abbrev pub invariant-loop-i : goal.invariant-loop-i
invariant-loop-i l = CountedTo l.i l.quantities l.sets l.counts
