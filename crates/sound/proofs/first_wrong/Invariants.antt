use Rattle.sound.proofs.First.{WrongFrom}
use Rattle.sound.proofs.first_wrong.Given as goal

abbrev pub invariant-loop-line : goal.invariant-loop-line
invariant-loop-line l = WrongFrom l.rack l.quantities l.lines l.left l.line
