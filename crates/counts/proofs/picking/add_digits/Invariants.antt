use Rattle.counts.proofs.Picked.{CountedFrom}
use Rattle.counts.proofs.picking.add_digits.Given as goal

abbrev pub invariant-loop-j : goal.invariant-loop-j
invariant-loop-j l = CountedFrom l.j l.quantities l.lines l.sums
