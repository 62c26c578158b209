use Rattle.std.proofs.Common.{◌≡◌, ◌≤◌, length, ap, ◌∙◌, arith}
use Rattle.model.specs.Limits.{most_placements}
use Rattle.model.specs.Count.{list_of}
use Rattle.placements.specs.Repeated.{repeated}
use Rattle.placements.proofs.Repeated.{length-repeated, all-repeated}
use Rattle.subset_table.specs.Counting.{part_counts, set_counts, added_at}
use Rattle.subset_table.proofs.Partly.{part-counts-first, part-counts-more, part-counts-last, length-part-counts, part-counts_addable}
use Rattle.subset_table.proofs.counting.count_within.Goals as goal

pub loop-t-init : goal.loop-t-init
loop-t-init c =
    let a = c.args in
    let placed = repeated a.quantities.now a.lines.now in
    c.count_sets.ensures ∙ ap (λ n. set_counts n placed) c.requires.size
    ∙ part-counts-first (all-repeated a.quantities.now c.requires.lines.domains)

pub add_tip-requires : goal.add_tip-requires
add_tip-requires c =
    let a = c.args in
    let g = c.requires.lines in
    let t = c.loop-t.t in
    let placed = repeated a.quantities.now a.lines.now in
    let few : length placed ≤ most_placements = omega (arith, length-repeated a.quantities.now a.lines.now g.same, g.few) in
    rw c.loop-t.invariant (part-counts_addable a.m t placed c.requires.lines.narrow (omega arith) few)

pub loop-t-preserved : goal.loop-t-preserved
loop-t-preserved c =
    let a = c.args in
    let placed = repeated a.quantities.now a.lines.now in
    let t = c.loop-t.t in
    c.add_tip.ensures
    ∙ ap (λ x. list_of (added_at t x) (length x)) c.loop-t.invariant
    ∙ ap (list_of (added_at t (part_counts a.m t placed))) (length-part-counts a.m t placed)
    ∙ part-counts-more (all-repeated a.quantities.now c.requires.lines.domains) t

pub returns : goal.returns
returns c =
    let a = c.args in
    let e : c.loop-t.t ≡ a.m = omega arith in
    (rw e at c.loop-t.invariant) ∙ part-counts-last (all-repeated a.quantities.now c.requires.lines.domains)
