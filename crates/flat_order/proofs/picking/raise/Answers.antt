use Rattle.std.proofs.Common.{arith}
use Rattle.flat_order.proofs.Levels.{raised_all}
use Rattle.flat_order.proofs.picking.raise.Goals as goal

pub returns : goal.returns
returns c =
    raised_all c.args.from c.args.to c.loop-v.v c.args.levels.now c.loop-v.levels c.loop-v.reached
    (omega arith) c.loop-v.invariant.1 c.loop-v.invariant.2
