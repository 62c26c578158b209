-- The placements of the lines that have a tip.
use Prim.Native.Nat.{ℕ, ◌≤◌}
use native.Mathlib.Omega.{arith}
use native.Mathlib.Nat.{le_refl}
use mathlib.Core.Bool.{Bool, true, false, cond}
use mathlib.Core.List.{List, [], ◌∷◌}
use Rattle.model.specs.Plan.{has}
use Rattle.placements.specs.Repeated.{total, weighted}

part_le : (b : Bool) (q : ℕ) → cond b q 0 ≤ q
part_le true q = le_refl q
part_le false q = omega arith

-- what a line adds is not more than its quantity
pub placed_le : (q s t : ℕ) → cond (has s t) q 0 ≤ q
placed_le q s t = part_le (has s t) q

-- some of the placements are not more than all
pub weighted_le : (f : ℕ → Bool) (qs xs : List ℕ) → weighted f qs xs ≤ total qs
unfolding weighted total
weighted_le f [] xs = omega arith
weighted_le f (q ∷ qs) [] = omega arith
weighted_le f (q ∷ qs) (x ∷ xs) = omega (arith, part_le (f x) q, weighted_le f qs xs)
