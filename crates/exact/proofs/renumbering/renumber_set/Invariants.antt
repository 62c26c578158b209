use Rattle.std.proofs.Common.{ℕ, ◌≡◌}
use Rattle.model.specs.Plan.{has}
use Rattle.model.specs.Renumber.{ranks}
use Rattle.exact.specs.Leaf.{Renumbering}
use Rattle.exact.proofs.renumbering.renumber_set.Given as goal

abbrev pub invariant-loop-t : goal.invariant-loop-t
invariant-loop-t l = (names : ℕ) → Renumbering names l.m l.list l.set → l.out ≡ ranks (has names) l.t l.set
