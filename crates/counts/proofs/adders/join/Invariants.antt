use Rattle.counts.proofs.Sums.{Joining}
use Rattle.counts.proofs.adders.join.Given as goal

abbrev pub invariant-loop-j : goal.invariant-loop-j
invariant-loop-j l = Joining l.sums l.planes l.j l.carry
