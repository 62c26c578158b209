use Rattle.std.proofs.Common.{List, zero, arith, ◌≡◌, ◌-◌, ◌<◌, ℕ, suc}
use lib.Count.{count_leading_zeros, leading_length}
use Rattle.counts.specs.declared.adders.Pair.{Pair}
use Rattle.counts.proofs.Picked.{CountedFrom, none-counted, room_twice, digit-fits, digit-counted, all-counted}
use Rattle.counts.proofs.picking.add_digits.Goals as goal

-- the digits above the one that is counted
above : {qs lines : List ℕ} {sums : List Pair} (j : ℕ) → 0 < j → CountedFrom j qs lines sums → CountedFrom (suc (j - 1)) qs lines sums
above zero h c = absurd (omega arith)
above (suc j) h c = let e : suc j - 1 ≡ j = omega arith in rw e c

pub loop-j-init : goal.loop-j-init
loop-j-init c =
    let (m, sum, few, _) = leading_length 8 c.args.most c.ranges.most.fits in
    let e : m ≡ 8 - count_leading_zeros 8 c.args.most = omega arith in
    none-counted c.requires.countable c.requires.empty c.requires.most (rw e at few) (omega arith)

pub double-requires : goal.double-requires
double-requires c = room_twice c.requires.countable (above _ c.loop-j-test.true c.loop-j.invariant)

pub add_digit-requires-clause-fits : goal.add_digit-requires-clause-fits
add_digit-requires-clause-fits c = digit-fits c.requires.countable (above _ c.loop-j-test.true c.loop-j.invariant) c.double.ensures

pub loop-j-preserved : goal.loop-j-preserved
loop-j-preserved c = digit-counted c.requires.countable (above _ c.loop-j-test.true c.loop-j.invariant) c.double.ensures c.add_digit.ensures

pub returns : goal.returns
returns c =
    let e : c.loop-j.j ≡ 0 = omega arith in
    all-counted c.requires.countable (rw e at c.loop-j.invariant)
