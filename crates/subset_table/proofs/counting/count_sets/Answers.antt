use Rattle.std.proofs.Common.{◌≡◌, length, ap, ◌∙◌, arith}
use Rattle.placements.specs.Repeated.{repeated}
use Rattle.subset_table.proofs.Adding.{length-sets, sets-none, sets_few, sets_more, own_place}
use Rattle.subset_table.proofs.counting.count_sets.Goals as goal

pub loop-i-init : goal.loop-i-init
unfolding repeated
loop-i-init c = c.fill.ensures.after (λ y e. e) ∙ sets-none _

pub offset_bounds-counts-line : goal.offset_bounds-counts-line
offset_bounds-counts-line c = record { fits = omega (arith, own_place c.requires.1 c.loop-i.i c.loop-i-test.true) }

pub bounds-counts-line : goal.bounds-counts-line
bounds-counts-line c =
    let size : length c.loop-i.counts ≡ length c.args.counts.now = ap length c.loop-i.invariant ∙ length-sets _ _ in
    omega (arith, own_place c.requires.1 c.loop-i.i c.loop-i-test.true, size)

pub overflow_add-counts : goal.overflow_add-counts
overflow_add-counts c =
    let g = c.requires.1.lines in
    let own = own_place c.requires.1 c.loop-i.i c.loop-i-test.true in
    let counted = sets_few (length c.args.counts.now) c.args.quantities.now c.args.lines.now g.same c.loop-i.i _ own.1 in
    record { fits = omega (arith, rw (← c.loop-i.invariant) at counted, g.few, c.from.ensures) }

pub bounds-counts-line-in-loop-i : goal.bounds-counts-line-in-loop-i
bounds-counts-line-in-loop-i c =
    let size : length c.loop-i.counts ≡ length c.args.counts.now = ap length c.loop-i.invariant ∙ length-sets _ _ in
    omega (arith, own_place c.requires.1 c.loop-i.i c.loop-i-test.true, size)

pub loop-i-preserved : goal.loop-i-preserved
loop-i-preserved c =
    let own = own_place c.requires.1 c.loop-i.i c.loop-i-test.true in
    rw (c.loop-i.invariant, c.from.ensures)
    (sets_more _ c.args.quantities.now c.args.lines.now c.requires.1.lines.same c.loop-i.i c.loop-i-test.true own.1)
