use Rattle.std.proofs.Common.{arith}
use Rattle.tips.proofs.Bits.{bits_between}
use Rattle.tips.proofs.between.Goals as goal

pub overflow_sub-result : goal.overflow_sub-result
overflow_sub-result c = omega (arith, bits_between c.requires.order c.requires.below)

pub returns : goal.returns
returns c = omega (arith, bits_between c.requires.order c.requires.below)
