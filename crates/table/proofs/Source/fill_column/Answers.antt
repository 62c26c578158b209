use Rattle.std.proofs.Common.{◌≡◌, ◌+◌, ◌-◌, arith}
use Rattle.table.specs.Cells.{zeros}
use Rattle.table.proofs.Columns.{rows-first, rows_more, allows_ready, cell_ready, cell_right}
use Rattle.table.proofs.Source.fill_column.Goals as goal

pub count_allows-requires : goal.count_allows-requires
unfolding zeros
count_allows-requires c = allows_ready c.requires.runs.1 c.args.b c.requires.inside

pub loop-a-init : goal.loop-a-init
unfolding zeros
loop-a-init c = λ lines k. rows-first k c.args.b c.requires.inside (c.requires.columns lines k)

pub cell-best-requires : goal.cell-best-requires
unfolding zeros
cell-best-requires c =
    let (lines, k) = c.requires.runs in
    let e : c.loop-a.a - 1 + 1 ≡ c.loop-a.a = omega arith in
    cell_ready k c.args.b c.requires.inside c.count_allows.ensures _ (omega arith) (rw e (c.loop-a.invariant lines k))

pub loop-a-preserved : goal.loop-a-preserved
unfolding zeros
loop-a-preserved c = λ lines k.
    let e : c.loop-a.a - 1 + 1 ≡ c.loop-a.a = omega arith in
    let ends = c.requires.inside in
    let row = c.loop-a.a - 1 in
    let best = cell_right k c.args.b ends c.count_allows.ensures row (omega arith) (rw e (c.loop-a.invariant lines k)) c.cell-best.ensures in
    rows_more k c.args.b ends row c.cell-best.result (omega arith) best (rw e (c.loop-a.invariant lines k))
