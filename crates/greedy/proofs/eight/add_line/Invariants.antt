use Rattle.greedy.proofs.FewTips.{Adding}
use Rattle.greedy.proofs.eight.add_line.Given as goal

abbrev pub invariant-loop-tip : goal.invariant-loop-tip
invariant-loop-tip l = Adding l.quantity l.set l.tip l.initial.counts l.counts
