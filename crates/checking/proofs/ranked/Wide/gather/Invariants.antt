use Rattle.checking.specs.Spread.{Gathered}
use Rattle.checking.proofs.ranked.Wide.gather.Given as goal

abbrev pub invariant-loop-i : goal.invariant-loop-i
invariant-loop-i l = Gathered l.self.names l.self.m l.self.count l.self.table.now l.own l.i 0
