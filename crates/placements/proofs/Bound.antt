-- How many pairs a plan of few placements can have.
use Prim.Native.Nat.{ℕ, ◌≤◌}
use native.Mathlib.Omega.{arith}
use mathlib.Core.Path.{◌≡◌}
use mathlib.Core.List.{List}
use lib.ListN.{length}
use Rattle.model.specs.Plan.{pairs}
use Rattle.model.specs.Limits.{most_placements, most_pairs}
use Rattle.model.proofs.Limits.{pairs_few}
use Rattle.placements.specs.Repeated.{total, repeated}
use Rattle.placements.proofs.Repeated.{length-repeated}

-- as many pairs as all placements on one tip have, and not more
pub pairs_bound : (qs plan : List ℕ) → length qs ≡ length plan → total qs ≤ most_placements → pairs (repeated qs plan) ≤ most_pairs
pairs_bound qs plan e h = pairs_few (repeated qs plan) (omega (arith, length-repeated qs plan e))
