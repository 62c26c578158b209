use Rattle.std.proofs.Common.{arith}
use Rattle.model.proofs.Lists.{all-at}
use Rattle.few_tips.proofs.narrow_sets.Goals as goal

pub overflow_cast-set : goal.overflow_cast-set
overflow_cast-set c = record { fits = omega (arith, all-at 0 c.requires.narrow c.loop-i.i (omega arith)) }
