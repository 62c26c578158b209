use Rattle.std.proofs.Common.{◌≡◌, take}
use Rattle.model.specs.Plan.{has}
use Rattle.placements.specs.Repeated.{weighted}
use Rattle.junior.proofs.with_tip.Given as goal

abbrev pub invariant-loop-i : goal.invariant-loop-i
invariant-loop-i l = l.sum ≡ weighted (λ s. has s l.tip) (take l.i l.quantities) (take l.i l.lines)
