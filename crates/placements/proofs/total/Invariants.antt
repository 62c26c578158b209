use Rattle.std.proofs.Common.{◌≡◌, take}
use Rattle.placements.specs.Repeated.{total}
use Rattle.placements.proofs.total.Given as goal

abbrev pub invariant-loop-quantity : goal.invariant-loop-quantity
invariant-loop-quantity l = l.sum ≡ total (take l.quantity-index l.quantities)
