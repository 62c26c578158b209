use Rattle.best.proofs.Ranks.{rank_room, table-is}
use Rattle.best.proofs.Rack.plan_named.Goals as goal

pub plan_by_ranks-count-requires-clause-room : goal.plan_by_ranks-count-requires-clause-room
plan_by_ranks-count-requires-clause-room c = rank_room c.requires.lent.runs c.args.self.now.names c.args.table.now c.requires.cells

pub returns-clause-table : goal.returns-clause-table
returns-clause-table c =
    let p = c.requires.lent in
    let e = c.plan_by_ranks-count.ensures in
    table-is p.runs p.named e.size c.plan_by_ranks-count.new.table e.table c.spread_table.ensures
