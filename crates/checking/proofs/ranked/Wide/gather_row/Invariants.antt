use Rattle.checking.specs.Spread.{Gathered}
use Rattle.checking.proofs.ranked.Wide.gather_row.Given as goal

abbrev pub invariant-loop-j : goal.invariant-loop-j
invariant-loop-j l = Gathered l.self.names l.self.m l.self.count l.self.table.now l.own l.i l.j
