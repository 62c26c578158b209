use Rattle.head.specs.OnHead.{on_head}
use Rattle.ranks.proofs.Runs.{listable, tips-listed}
use Rattle.best.proofs.Ranks.{ranks_ready, plan_fits, plan-is, front-is}
use Rattle.best.proofs.Rack.plan_by_ranks.Goals as goal

pub renumber_lines-requires : goal.renumber_lines-requires
renumber_lines-requires c =
    let p = c.requires.lent in
    let e = c.list_tips-count.ensures in
    listable p.runs p.named e.ranks

pub renumber_mounted-on-requires : goal.renumber_mounted-on-requires
renumber_mounted-on-requires c =
    let p = c.requires.lent in
    let e = c.list_tips-count.ensures in
    tips-listed p.runs p.named e.ranks

pub plan_ranks-requires : goal.plan_ranks-requires
plan_ranks-requires c =
    let p = c.requires.lent in
    let e = c.list_tips-count.ensures in
    ranks_ready p.runs p.named e.size e.ranks e.named c.renumber_lines.ensures p.lines c.requires.room

pub name_tips-requires : goal.name_tips-requires
name_tips-requires c =
    let p = c.requires.lent in
    let e = c.list_tips-count.ensures in
    plan_fits p.runs p.named e.size e.ranks e.named _ c.renumber_lines.ensures c.plan_ranks.ensures.plan

pub returns-clause-plan : goal.returns-clause-plan
returns-clause-plan c =
    let p = c.requires.lent in
    let e = c.list_tips-count.ensures in
    plan-is p.runs p.named e.size e.ranks e.named (on_head c.args.self.now.mounted) c.renumber_lines.ensures
    c.renumber_mounted-on.ensures c.plan_ranks.ensures.plan c.name_tips.ensures

pub returns-clause-table : goal.returns-clause-table
returns-clause-table c =
    let p = c.requires.lent in
    let e = c.list_tips-count.ensures in
    front-is p.runs p.named e.size e.ranks e.named c.plan_ranks.new.table c.renumber_lines.ensures c.plan_ranks.ensures.table
