use Rattle.std.proofs.Common.{arith, refl}
use Rattle.counts.proofs.Sums.{joining_start, joining_more}
use Rattle.counts.proofs.adders.join.Goals as goal

pub loop-j-init : goal.loop-j-init
loop-j-init c = joining_start _ refl

pub loop-j-preserved : goal.loop-j-preserved
loop-j-preserved c = joining_more c.loop-j.invariant c.requires (omega arith) c.add_three-both.ensures
