use Rattle.counts.proofs.Sums.{Moving}
use Rattle.counts.proofs.adders.double.Given as goal

abbrev pub invariant-loop-sum : goal.invariant-loop-sum
invariant-loop-sum l = Moving l.initial.sums l.sums l.sum-index l.lower
