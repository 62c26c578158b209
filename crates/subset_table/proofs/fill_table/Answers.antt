use Rattle.std.proofs.Common.{arith}
use Rattle.placements.proofs.Repeated.{length-repeated, all-repeated}
use Rattle.subset_table.proofs.Scores.{lines_counted, filled-scores}
use Rattle.subset_table.proofs.fill_table.Goals as goal

pub fill_scores-requires-clause-counted : goal.fill_scores-requires-clause-counted
fill_scores-requires-clause-counted c =
    let a = c.args in
    let g = c.requires.lines in
    lines_counted g.narrow (omega (arith, length-repeated a.quantities.now a.lines.now g.same, g.few))
    (all-repeated a.quantities.now g.domains) c.count_within.ensures

pub returns-clause-scores : goal.returns-clause-scores
returns-clause-scores c =
    let a = c.args in
    let g = c.requires.lines in
    filled-scores g.narrow (omega (arith, length-repeated a.quantities.now a.lines.now g.same, g.few))
    (all-repeated a.quantities.now g.domains) c.count_within.ensures c.fill_scores.ensures
