use Rattle.head.specs.OnHead.{on_head}
use Rattle.subset_rules.specs.Exact.{capped}
use Rattle.subset_rules.proofs.Placements.{exact-capped}
use Rattle.exact.proofs.Boards.{renumberable, tips_listed, lent, table-is, plan_fits, plan-is, pairs-are, tips-are}
use Rattle.exact.proofs.plan_board.Goals as goal

pub renumber_sets-requires : goal.renumber_sets-requires
renumber_sets-requires c =
    let t = c.list_tips-r.ensures in
    (c.names_of-names.result, renumberable c.requires c.names_of-names.ensures t.size t.ranks t.named)

pub renumber_mounted-on-requires : goal.renumber_mounted-on-requires
renumber_mounted-on-requires c =
    let t = c.list_tips-r.ensures in
    tips_listed c.requires c.names_of-names.ensures t.size t.ranks t.named

pub plan_ranks-shared-requires : goal.plan_ranks-shared-requires
plan_ranks-shared-requires c =
    let t = c.list_tips-r.ensures in
    lent c.requires c.names_of-names.ensures t.size t.ranks t.named
    (c.renumber_sets.ensures c.names_of-names.result (renumberable c.requires c.names_of-names.ensures t.size t.ranks t.named))

pub name_tips-requires : goal.name_tips-requires
name_tips-requires c =
    let t = c.list_tips-r.ensures in
    plan_fits c.requires c.names_of-names.ensures t.size t.ranks t.named
    (c.renumber_sets.ensures c.names_of-names.result (renumberable c.requires c.names_of-names.ensures t.size t.ranks t.named))
    (on_head c.args.mounted) c.renumber_mounted-on.ensures (capped c.args.price) c.plan_ranks-shared.ensures.plan

pub returns-clause-plan : goal.returns-clause-plan
returns-clause-plan c =
    let t = c.list_tips-r.ensures in
    plan-is c.requires c.names_of-names.ensures t.size t.ranks t.named
    (c.renumber_sets.ensures c.names_of-names.result (renumberable c.requires c.names_of-names.ensures t.size t.ranks t.named))
    (on_head c.args.mounted) c.renumber_mounted-on.ensures (capped c.args.price) c.plan_ranks-shared.ensures.plan c.name_tips.ensures

pub returns-clause-pairs : goal.returns-clause-pairs
returns-clause-pairs c =
    let t = c.list_tips-r.ensures in
    pairs-are c.requires c.names_of-names.ensures t.size t.ranks t.named
    (c.renumber_sets.ensures c.names_of-names.result (renumberable c.requires c.names_of-names.ensures t.size t.ranks t.named))
    (on_head c.args.mounted) c.renumber_mounted-on.ensures (capped c.args.price) c.plan_ranks-shared.ensures.plan c.name_tips.ensures
    c.plan_ranks-shared.ensures.pairs

pub returns-clause-tips : goal.returns-clause-tips
returns-clause-tips c =
    let t = c.list_tips-r.ensures in
    tips-are c.requires c.names_of-names.ensures t.size t.ranks t.named
    (c.renumber_sets.ensures c.names_of-names.result (renumberable c.requires c.names_of-names.ensures t.size t.ranks t.named))
    (on_head c.args.mounted) c.renumber_mounted-on.ensures (capped c.args.price) c.plan_ranks-shared.ensures.plan c.name_tips.ensures
    c.plan_ranks-shared.ensures.tips

pub returns-clause-table : goal.returns-clause-table
returns-clause-table c =
    let t = c.list_tips-r.ensures in
    table-is c.requires c.names_of-names.ensures t.size t.ranks t.named
    (c.renumber_sets.ensures c.names_of-names.result (renumberable c.requires c.names_of-names.ensures t.size t.ranks t.named))
    (capped c.args.price) c.plan_ranks-shared.ensures.table

pub returns-clause-rule : goal.returns-clause-rule
returns-clause-rule c =
    let g = c.requires.good in
    exact-capped g.domains g.placed g.same g.few (on_head c.args.mounted) c.args.price (returns-clause-plan c)
