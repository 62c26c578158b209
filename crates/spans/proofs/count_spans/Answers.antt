use Rattle.std.proofs.Common.{◌∙◌, arith}
use Rattle.model.proofs.Lists.{all-at}
use Rattle.placements.specs.Repeated.{repeated}
use Rattle.spans.proofs.Fill.{counts-none, counts-more, counts_few}
use Rattle.spans.proofs.count_spans.Goals as goal

pub loop-i-init : goal.loop-i-init
unfolding repeated
loop-i-init c = c.fill.ensures.after (λ y e. e) ∙ counts-none c.args.m c.args.sums.now c.requires.size

pub place_of-k-requires-clause-domain : goal.place_of-k-requires-clause-domain
place_of-k-requires-clause-domain c = all-at 0 c.requires.good.domains c.loop-i.i c.loop-i-test.true

pub overflow_add-sums : goal.overflow_add-sums
overflow_add-sums c =
    let good = c.requires.good in
    let counted = counts_few c.args.m c.args.quantities.now c.args.lines.now good.same c.loop-i.i c.place_of-k.result c.place_of-k.ensures.inside in
    record { fits = omega (arith, rw (← c.loop-i.invariant) at counted, good.few) }

pub loop-i-preserved : goal.loop-i-preserved
loop-i-preserved c =
    let place = c.place_of-k.ensures in
    rw (c.loop-i.invariant, place.value, c.from.ensures)
    (counts-more c.args.m c.args.quantities.now c.args.lines.now c.requires.good.same c.loop-i.i c.loop-i-test.true (rw place.value at place.inside))
