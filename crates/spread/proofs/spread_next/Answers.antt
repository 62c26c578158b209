use Rattle.std.proofs.Common.{sym, ◌∙◌}
use Rattle.spread.proofs.Spread.{rows_more, rows_copied}
use Rattle.spread.proofs.spread_next.Goals as goal

pub returns-then-not-has_tip : goal.returns-then-not-has_tip
returns-then-not-has_tip c = λ old done.
    let a = c.args in
    let r = a.ranking.now in
    rows_copied r.set r.m r.count r.counted old a.a done c.if-a-ranking.true (sym c.has_tip.ensures ∙ c.if-not-has_tip.true) c.copy_row.ensures

pub returns-else-a-ranking : goal.returns-else-a-ranking
returns-else-a-ranking c = λ old done.
    let a = c.args in
    let r = a.ranking.now in
    rows_more r.set r.m r.count r.counted old a.a done c.spread_row.ensures
