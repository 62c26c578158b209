use Rattle.std.proofs.Common.{arith}
use Rattle.counts.proofs.Borrow.{lowered_none, lowered_more, lowered_all}
use Rattle.std.proofs.Math.ListN.{length-set}
use Rattle.counts.proofs.difference.subtract.Goals as goal

pub loop-j-init : goal.loop-j-init
loop-j-init c = lowered_none c.requires

pub loop-j-preserved : goal.loop-j-preserved
loop-j-preserved c = lowered_more c.requires c.loop-j.invariant (omega arith) (simp length-set c.loop-j.invariant.size)

pub returns : goal.returns
returns c = lowered_all c.requires c.loop-j.invariant (omega arith)
