use Rattle.unplanned.specs.Listed.{InOrder}
use Rattle.unplanned.proofs.list_all.Given as goal

abbrev pub invariant-loop-i : goal.invariant-loop-i
invariant-loop-i l = InOrder l.i l.list
