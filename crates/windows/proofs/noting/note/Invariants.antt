use Rattle.windows.specs.Found.{Lowered, Raised}
use Rattle.windows.proofs.noting.note.Given as goal

abbrev pub invariant-loop-p : goal.invariant-loop-p
invariant-loop-p l = record {
  lowered : Lowered l.order l.p l.initial.first l.first;
  raised : Raised l.order l.p l.initial.last l.last;
}
