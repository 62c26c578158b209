use Rattle.std.proofs.Common.{◌+◌}
use borrow.Rule.Slice.PartMut.{put_mid}
use Rattle.counts.proofs.Sums.{Rising}
use Rattle.counts.proofs.adders.carry_up.Given as goal

-- the planes from the fifth on in the place of those of the sums
abbrev pub invariant-loop-sum : goal.invariant-loop-sum
invariant-loop-sum l = Rising l.fn.carry l.fn.sums (put_mid 4 8 l.fn.sums l.sum-items) (4 + l.sum-index) l.left
