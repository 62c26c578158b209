use Rattle.std.proofs.Common.{arith}
use Rattle.common_tip.specs.Common.{least_count}
use Rattle.common_tip.proofs.least_count.Goals as goal

pub returns : goal.returns
unfolding least_count
returns c = omega arith
