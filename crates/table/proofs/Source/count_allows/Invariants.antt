use Rattle.std.proofs.Common.{◌≡◌}
use Rattle.table.specs.Cells.{allow}
use Rattle.table.proofs.Listed.{listed}
use Rattle.table.proofs.Source.count_allows.Given as goal

abbrev pub invariant-loop-c : goal.invariant-loop-c
invariant-loop-c l = l.allows ≡ listed (allow l.self.m l.self.sums.now l.b) l.c l.initial.allows
