use Rattle.std.proofs.Common.{◌≡◌, ◌≤◌, ap, sym, ◌∙◌, rules, arith}
use Rattle.head.specs.OnHead.{on_head}
use Rattle.model.specs.Plan.{pairs}
use Rattle.placements.specs.Repeated.{repeated}
use Rattle.placements.proofs.Repeated.{all-repeated}
use Rattle.subset_rules.specs.Subsets.{tips_used, exact_plan_q}
use Rattle.subset_rules.specs.Exact.{most_price, capped}
use Rattle.subset_table.proofs.Scores.{lines_scored}
use Rattle.exact.proofs.Whole.{few_lines, all_below, tips_below, pairs_are, used_are, tips_summable, plan_laid}
use Rattle.exact.proofs.plan_ranks.Goals as goal

-- the price as it counts
price-is : (c : goal.After-names_of-all) → c.min-price.result ≡ capped c.args.price
price-is c = search rules

pub invariant_of-tables : goal.invariant_of-tables
invariant_of-tables c =
    let g = c.requires.lines in
    let t = c.fill_table.ensures in
    let low : c.min-price.result ≤ most_price = omega (arith, price-is c) in
    record { scored = lines_scored g.narrow (few_lines g t.counts) (all-repeated c.args.quantities.now g.domains) t.counts low t.scores }

pub pick_tips-count-requires-clause-inside : goal.pick_tips-count-requires-clause-inside
pick_tips-count-requires-clause-inside c = rw c.names_of-all.ensures (all_below c.requires.lines c.fill_table.ensures.counts)

pub put_tips-requires-clause-tips : goal.put_tips-requires-clause-tips
put_tips-requires-clause-tips c =
    tips_below c.requires.lines c.fill_table.ensures.counts (on_head c.args.mounted) c.min-price.result
    (rw c.names_of-all.ensures at c.pick_tips-count.ensures.tips)

pub sum_tips-requires : goal.sum_tips-requires
sum_tips-requires c =
    rw c.names_of-all.ensures (tips_summable c.requires.lines c.fill_table.ensures.counts (on_head c.args.mounted) c.min-price.result
    (rw c.names_of-all.ensures at c.pick_tips-count.ensures.tips))

pub returns-clause-plan : goal.returns-clause-plan
returns-clause-plan c =
    let price : c.min-price.result ≡ capped c.args.price = search rules in
    plan_laid c.requires.lines c.fill_table.ensures.counts (on_head c.args.mounted) c.min-price.result
    (rw c.names_of-all.ensures at c.pick_tips-count.ensures.tips) c.put_tips.ensures
    ∙ ap (λ p. exact_plan_q (on_head c.args.mounted) p c.args.m c.args.quantities.now c.args.sets.now) price

pub returns-clause-pairs : goal.returns-clause-pairs
returns-clause-pairs c =
    let tips = rw c.names_of-all.ensures at c.pick_tips-count.ensures.tips in
    let g = c.requires.lines in
    let t = c.fill_table.ensures.counts in
    let on = on_head c.args.mounted in
    (rw c.names_of-all.ensures at c.sum_tips.ensures.pairs)
    ∙ pairs_are g t on c.min-price.result tips
    ∙ ap (λ l. pairs (repeated c.args.quantities.now l)) (sym (plan_laid g t on c.min-price.result tips c.put_tips.ensures))

pub returns-clause-tips : goal.returns-clause-tips
returns-clause-tips c =
    let tips = rw c.names_of-all.ensures at c.pick_tips-count.ensures.tips in
    let g = c.requires.lines in
    let t = c.fill_table.ensures.counts in
    let on = on_head c.args.mounted in
    (rw c.names_of-all.ensures at c.sum_tips.ensures.tips)
    ∙ used_are g t on c.min-price.result tips
    ∙ ap (tips_used c.args.m) (sym (plan_laid g t on c.min-price.result tips c.put_tips.ensures))
