use Rattle.counts.proofs.AtLeast.{Compared}
use Rattle.counts.proofs.tips_with.Given as goal

abbrev pub invariant-loop-plane : goal.invariant-loop-plane
invariant-loop-plane l = Compared l.planes l.rack l.least l.plane-index l.enough l.left
