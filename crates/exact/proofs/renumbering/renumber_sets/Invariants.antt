use Rattle.std.proofs.Common.{ℕ, ◌≡◌}
use Rattle.model.specs.Count.{All}
use Rattle.model.specs.Plan.{has}
use Rattle.model.specs.Renumber.{ranks}
use Rattle.model.proofs.Loops.{mapped}
use Rattle.exact.specs.Leaf.{Renumbering}
use Rattle.exact.proofs.renumbering.renumber_sets.Given as goal

abbrev pub invariant-loop-set : goal.invariant-loop-set
invariant-loop-set l =
    (names : ℕ) → All (Renumbering names l.m l.list) l.initial.sets
    → l.sets ≡ mapped (ranks (has names) l.m) l.set-index l.initial.sets
