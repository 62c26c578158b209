use Rattle.std.proofs.Common.{arith, sym, ap, ◌∙◌}
use mathlib.Core.Path.{ap₂}
use Rattle.placements.specs.Repeated.{repeated}
use Rattle.placements.proofs.Repeated.{length-repeated}
use Rattle.counts.proofs.Read.{largest-top}
use Rattle.common_tip.specs.Common.{margin_by, least_count}
use Rattle.common_tip.proofs.Laws.{top-total, margin-by, least_common}
use Rattle.common_tip.proofs.within.Goals as goal

pub bound_by-requires-clause-n : goal.bound_by-requires-clause-n
bound_by-requires-clause-n c = omega (arith, c.total.ensures, c.requires.countable.few)

pub bound_by-requires-clause-top : goal.bound_by-requires-clause-top
bound_by-requires-clause-top c =
    let rack = c.args.rack in
    omega (arith, c.total.ensures, largest-top c.count_tips-planes.ensures rack, top-total rack c.requires.countable)

pub returns-clause-margin : goal.returns-clause-margin
returns-clause-margin c =
    let lines = repeated c.args.quantities.now c.args.lines.now in
    let top = largest-top c.count_tips-planes.ensures c.args.rack in
    let all = c.total.ensures ∙ sym (length-repeated c.args.quantities.now c.args.lines.now c.requires.countable.same) in
    c.bound_by.ensures.margin ∙ ap₂ (λ t x. margin_by t x c.args.k) top all ∙ margin-by c.args.rack lines c.args.k

pub returns-clause-tips : goal.returns-clause-tips
returns-clause-tips c =
    let all = c.total.ensures ∙ sym (length-repeated c.args.quantities.now c.args.lines.now c.requires.countable.same) in
    c.bound_by.ensures.tips ∙ least_common c.args.rack c.args.k c.count_tips-planes.ensures (ap (λ x. least_count x c.args.k) all)
