use Rattle.std.proofs.Common.{◌≡◌, ◌*◌, arith}
use Rattle.placements.proofs.Good.{good_placements}
use Rattle.spans.specs.Spans.{sums_width}
use Rattle.spans.proofs.Fill.{summing_first, row_first, next, row_more, summing_all}
use Rattle.spans.proofs.sum_spans.Goals as goal

pub loop-x-init : goal.loop-x-init
loop-x-init c =
    let good = good_placements c.requires.good in
    let e : 1 * sums_width c.args.m ≡ sums_width c.args.m = omega arith in
    rw (e, c.count_spans.ensures) (summing_first good.most good.domains)

pub loop-y-init : goal.loop-y-init
loop-y-init c = row_first c.loop-x.x c.loop-x.invariant

pub overflow_add-total : goal.overflow_add-total
overflow_add-total c =
    record { fits = omega (arith, next (good_placements c.requires.good) c.loop-x-test.true c.loop-y-test.true c.loop-y.invariant) }

pub overflow_add-sums : goal.overflow_add-sums
overflow_add-sums c =
    record { fits = omega (arith, next (good_placements c.requires.good) c.loop-x-test.true c.loop-y-test.true c.loop-y.invariant) }

pub loop-y-preserved : goal.loop-y-preserved
loop-y-preserved c = row_more (good_placements c.requires.good) c.loop-x-test.true c.loop-y-test.true c.loop-y.invariant

pub returns : goal.returns
returns c =
    let e : c.loop-x.x ≡ c.args.m = omega arith in
    summing_all (rw e at c.loop-x.invariant)
