use Rattle.exact.specs.Leaf.{Summable}
use Rattle.exact.proofs.Sums.{Summing}
use Rattle.exact.proofs.planning.sum_tips.Given as goal

abbrev pub invariant-loop-tip : goal.invariant-loop-tip
invariant-loop-tip l = (s : Summable l.counts l.all l.tips) → Summing s l.tip-index l.left l.shared.pairs l.shared.tips
