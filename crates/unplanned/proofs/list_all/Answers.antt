use Rattle.std.proofs.Common.{arith}
use Rattle.unplanned.proofs.InOrder.{in_order_more}
use Rattle.unplanned.proofs.list_all.Goals as goal

pub loop-i-preserved : goal.loop-i-preserved
loop-i-preserved c = in_order_more c.loop-i.list c.loop-i.i (omega arith) c.loop-i.invariant
