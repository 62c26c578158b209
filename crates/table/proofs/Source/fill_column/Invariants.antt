use Rattle.table.proofs.Columns.{RowsBy}
use Rattle.table.proofs.Source.fill_column.Given as goal

abbrev pub invariant-loop-a : goal.invariant-loop-a
invariant-loop-a l = RowsBy l.self.m l.self.sums.now l.table l.column l.b l.a
