use Rattle.std.proofs.Common.{◌≡◌, ◌&&◌, eqb, drop}
use Rattle.model.specs.Count.{each}
use Rattle.job_write.proofs.version_for.Given as goal

-- each quantity is 1 exactly where nothing was gathered and each that is left is 1
abbrev pub invariant-loop-quantity : goal.invariant-loop-quantity
invariant-loop-quantity l =
    each (λ q. eqb q 1) l.quantities ≡ (eqb l.others 0 && each (λ q. eqb q 1) (drop l.quantity-index l.quantities))
