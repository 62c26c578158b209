use Rattle.flat_order.proofs.Lasts.{first-none, first_more}
use Rattle.flat_order.proofs.positions.first_parts.Goals as goal

pub loop-i-init : goal.loop-i-init
loop-i-init c = first-none

pub loop-i-preserved : goal.loop-i-preserved
loop-i-preserved c = rw (c.bitor-all.ensures, c.single.ensures) (first_more _ _ c.loop-i.invariant)
