use Rattle.std.proofs.Common.{arith}
use Rattle.greedy.proofs.Round.{start, few_placements, each_empty, pairs_fit, next, next_fewer, end_left, end_plan, end_pairs, tip_lt}
use Rattle.greedy.proofs.FewTips.{few_countable, few_begins, few_chooses}
use Rattle.greedy.proofs.eight.take_rounds.Goals as goal

pub rounds-init : goal.rounds-init
rounds-init c = start c.args.quantities.now c.requires.shareable.good.domains c.requires.shareable.size

pub count_lines-counts-requires : goal.count_lines-counts-requires
count_lines-counts-requires c = few_countable c.rounds.invariant c.requires.shareable.good

pub returns-then-busiest-eq0 : goal.returns-then-busiest-eq0
returns-then-busiest-eq0 c =
    let busiest = c.busiest_tips-busiest.ensures in
    let b = few_begins c.rounds.invariant c.requires.shareable.good c.requires.narrow c.count_lines-counts.ensures busiest.top in
    let empty = each_empty b c.if-busiest-eq0.true in
    record { pairs_are = end_pairs b.state empty; plan_is = end_plan b.state empty; left_is = end_left b.state empty }

pub pairs_among-shared-requires : goal.pairs_among-shared-requires
pairs_among-shared-requires c =
    let busiest = c.busiest_tips-busiest.ensures in
    few_placements (few_begins c.rounds.invariant c.requires.shareable.good c.requires.narrow c.count_lines-counts.ensures busiest.top)

pub overflow_add-shared : goal.overflow_add-shared
overflow_add-shared c =
    let busiest = c.busiest_tips-busiest.ensures in
    let chosen =
    few_chooses c.rounds.invariant c.requires.shareable.good c.requires.narrow c.count_lines-counts.ensures busiest.top c.if-busiest-eq0.false
    busiest.tips c.choose-tip.ensures in
    record { fits = omega (arith, pairs_fit chosen c.pairs_among-shared.ensures) }

pub place_lines-requires-clause-tip : goal.place_lines-requires-clause-tip
place_lines-requires-clause-tip c =
    let busiest = c.busiest_tips-busiest.ensures in
    let chosen =
    few_chooses c.rounds.invariant c.requires.shareable.good c.requires.narrow c.count_lines-counts.ensures busiest.top c.if-busiest-eq0.false
    busiest.tips c.choose-tip.ensures in
    omega (arith, tip_lt chosen, c.requires.narrow)

pub clear_lines-requires : goal.clear_lines-requires
clear_lines-requires c =
    let busiest = c.busiest_tips-busiest.ensures in
    let chosen =
    few_chooses c.rounds.invariant c.requires.shareable.good c.requires.narrow c.count_lines-counts.ensures busiest.top c.if-busiest-eq0.false
    busiest.tips c.choose-tip.ensures in
    omega (arith, tip_lt chosen, c.requires.narrow)

pub rounds-smaller : goal.rounds-smaller
rounds-smaller c =
    let busiest = c.busiest_tips-busiest.ensures in
    let chosen =
    few_chooses c.rounds.invariant c.requires.shareable.good c.requires.narrow c.count_lines-counts.ensures busiest.top c.if-busiest-eq0.false
    busiest.tips c.choose-tip.ensures in
    next_fewer chosen c.pairs_among-shared.ensures (record { left_is = c.clear_lines.ensures; plan_is = c.place_lines.ensures })

pub rounds-preserved : goal.rounds-preserved
rounds-preserved c =
    let busiest = c.busiest_tips-busiest.ensures in
    let chosen =
    few_chooses c.rounds.invariant c.requires.shareable.good c.requires.narrow c.count_lines-counts.ensures busiest.top c.if-busiest-eq0.false
    busiest.tips c.choose-tip.ensures in
    next chosen c.pairs_among-shared.ensures (record { left_is = c.clear_lines.ensures; plan_is = c.place_lines.ensures })
