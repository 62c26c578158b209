use Rattle.std.proofs.Common.{refl}
use lib.Count.{count_leading_zeros}
use Rattle.model.specs.Interval.{high}
use Rattle.tips.proofs.highest.Goals as goal

pub returns-then-set-eq0 : goal.returns-then-set-eq0
unfolding high count_leading_zeros
returns-then-set-eq0 c = rw c.if-set-eq0.true refl
