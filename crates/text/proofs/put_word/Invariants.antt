use Rattle.std.proofs.Common.{◌+◌, take}
use Rattle.text.specs.Buffer.{Put}
use Rattle.text.proofs.put_word.Given as goal

abbrev pub invariant-loop-i : goal.invariant-loop-i
invariant-loop-i l = Put l.initial.out l.at (take l.i l.word) (l.at + l.i) l.out
