use Rattle.std.proofs.Common.{arith, ap, ◌≤◌, ◌∙◌}
use mir.Syntax.{w32}
use mir.ValLaws.{to_z-of_z}
use Rattle.model.specs.Limits.{most_placements}
use Rattle.common_tip.specs.Common.{margin_by, least_count}
use Rattle.common_tip.proofs.Signed.{margin-fits}
use Rattle.common_tip.proofs.bound_by.Goals as goal

pub margin-requires-clause-top : goal.margin-requires-clause-top
margin-requires-clause-top c = omega (arith, c.busiest_tips-busiest.ensures.top, c.requires.top, c.requires.n)

pub tips_with-requires-clause-least : goal.tips_with-requires-clause-least
unfolding least_count
tips_with-requires-clause-least c = omega (arith, c.least_count.ensures, c.requires.n)

pub returns-clause-margin : goal.returns-clause-margin
returns-clause-margin c =
    let a = c.args in
    let top = c.busiest_tips-busiest.result.top in
    let few : top ≤ most_placements = omega (arith, c.busiest_tips-busiest.ensures.top, c.requires.top, c.requires.n) in
    let fits = margin-fits top a.n a.k few c.requires.n c.ranges.k.fits in
    to_z-of_z w32 c.margin.result (rw c.margin.ensures fits) ∙ c.margin.ensures ∙ ap (λ t. margin_by t a.n a.k) c.busiest_tips-busiest.ensures.top

pub returns-clause-tips : goal.returns-clause-tips
returns-clause-tips c = rw c.least_count.ensures at c.tips_with.ensures
