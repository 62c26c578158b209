use Rattle.std.proofs.Common.{ℕ, ◌<◌, ◌≤◌, get_or}
use Rattle.counts.proofs.picking.bounds_of.Given as goal

abbrev pub invariant-loop-quantity : goal.invariant-loop-quantity
invariant-loop-quantity l =
    ((n : ℕ) → n < l.quantity-index → l.low ≤ get_or l.quantities n 0) × ((n : ℕ) → n < l.quantity-index → get_or l.quantities n 0 ≤ l.high)
