use Rattle.std.proofs.Common.{arith}
use Rattle.counts.proofs.Sums.{moving_start, moving_more}
use Rattle.counts.proofs.adders.double.Goals as goal

pub loop-sum-init : goal.loop-sum-init
loop-sum-init c = moving_start c.requires

pub loop-sum-preserved : goal.loop-sum-preserved
loop-sum-preserved c = moving_more c.loop-sum.invariant (omega arith)
