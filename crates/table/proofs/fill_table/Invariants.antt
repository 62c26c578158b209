use Rattle.table.specs.Cells.{ColumnsBy}
use Rattle.table.proofs.fill_table.Given as goal

abbrev pub invariant-loop-b : goal.invariant-loop-b
invariant-loop-b l = ColumnsBy l.m l.sums l.table l.b
