use Rattle.std.proofs.Common.{◌≡◌, arith, length}
use borrow.Rule.Slice.PartMut.{put_same, mid_of, mid_len}
use Rattle.counts.proofs.Sums.{rising_start, rising_part, rising_end}
use Rattle.counts.proofs.adders.carry_up.Goals as goal

pub loop-sum-init : goal.loop-sum-init
loop-sum-init c = rw (put_same 4 8 c.args.sums.now) (rising_start c.requires)

pub loop-sum-preserved : goal.loop-sum-preserved
loop-sum-preserved c =
    let n : length (mid_of 4 8 c.args.sums.now) ≡ 8 = mid_len 4 12 c.args.sums.now (omega arith) in
    rw (c.bitxor.ensures, c.bitand-left.ensures)
    (rising_part 8 c.loop-sum.sum-items c.loop-sum.invariant (omega arith) (omega (arith, c.loop-sum.auto.sum-items)) (omega arith))

pub returns : goal.returns
returns c =
    let n : length (mid_of 4 8 c.args.sums.now) ≡ 8 = mid_len 4 12 c.args.sums.now (omega arith) in
    rising_end c.loop-sum.invariant c.requires (omega arith)
