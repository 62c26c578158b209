use Rattle.counts.proofs.Borrow.{Lowered}
use Rattle.counts.proofs.difference.subtract.Given as goal

abbrev pub invariant-loop-j : goal.invariant-loop-j
invariant-loop-j l = Lowered l.gone l.initial.planes l.j l.borrow l.planes
