-- The Junior with two holders: a plan on one tip or two. A list of lines has a set for each placement; equal sets get equal tips.
use Rattle.std.specs.Prelude.{ℕ, ◌+◌, ◌*◌, ◌-◌, ◌/◌, ◌%◌, ◌≤◌, ◌<◌, max, ◌≡◌, ◌⊎◌, Bool, cond, ◌&&◌, ◌||◌, List, map, leb, ltb, eqb}
use Rattle.model.specs.Count.{All, each, lowest_at}
use Rattle.model.specs.Plan.{has, uses, Valid, pairs, choose2, prefer}
use Rattle.placements.specs.Repeated.{repeated}

-- each line has u or v
unfoldable pub serves : List ℕ → ℕ → ℕ → Bool
serves lines u v = each (λ s. has s u || has s v) lines

-- the lines that have u on it, and the others on v
unfoldable pub gathered : List ℕ → ℕ → ℕ → List ℕ
gathered lines u v = map (prefer u (λ s. v)) lines

-- the side for the lines that have both: u gives at least as many pairs
unfoldable pub to_first : List ℕ → ℕ → ℕ → Bool
to_first lines u v = leb (pairs (gathered lines v u)) (pairs (gathered lines u v))

-- the lines that have both all on the side that gives more pairs, on u if equal
unfoldable pub two_plan : List ℕ → ℕ → ℕ → List ℕ
two_plan lines u v = cond (to_first lines u v) (gathered lines u v) (gathered lines v u)

-- the tips u and v are a choice: in order, each line has one of them, and of two different tips each gets a line
unfoldable pub is_choice : List ℕ → ℕ → ℕ → Bool
is_choice lines u v = leb u v && (serves lines u v && (eqb u v || (ltb 0 (uses (two_plan lines u v) u) && ltb 0 (uses (two_plan lines u v) v))))

-- one more than the pairs of the choice numbered k, its tips k / m and k % m; 0 where they are none
unfoldable pub score : ℕ → List ℕ → ℕ → ℕ
score m lines k = cond (is_choice lines (k / m) (k % m)) (1 + pairs (two_plan lines (k / m) (k % m))) 0

-- the lowest number of a choice with the most pairs: the lowest u, and then the lowest v
unfoldable pub chosen : ℕ → List ℕ → ℕ
chosen m lines = lowest_at (score m lines) (m * m)

-- the test that some tips serve every line
unfoldable pub is_served : ℕ → List ℕ → Bool
is_served m lines = ltb 0 (score m lines (chosen m lines))

-- the plan uses one tip, u = v, or two, each with a line
pub record OnTips (u v : ℕ) (plan : List ℕ) : Type 0 where
  pub ordered : u ≤ v
  pub on : All (λ t. (t ≡ u) ⊎ (t ≡ v)) plan
  pub used : u < v → (0 < uses plan u) × (0 < uses plan v)

-- the plan of u and v with quantities: the side is chosen for the placements, and each line is on one of the two tips
unfoldable pub line_plan : List ℕ → List ℕ → ℕ → ℕ → List ℕ
line_plan qs sets u v = cond (to_first (repeated qs sets) u v) (gathered sets u v) (gathered sets v u)

-- the Junior's tips and plan for lines with quantities in a rack of m tips
unfoldable pub first_tip : ℕ → List ℕ → List ℕ → ℕ
first_tip m qs sets = chosen m (repeated qs sets) / m

unfoldable pub second_tip : ℕ → List ℕ → List ℕ → ℕ
second_tip m qs sets = chosen m (repeated qs sets) % m

unfoldable pub junior_plan : ℕ → List ℕ → List ℕ → List ℕ
junior_plan m qs sets = line_plan qs sets (first_tip m qs sets) (second_tip m qs sets)

-- no valid plan of the lines is on one tip or two
abbrev pub NoneOnTips : List ℕ → Type 0
NoneOnTips sets = (x y : ℕ) (other : List ℕ) → Valid sets other → OnTips x y other → ⊥

-- the plan on u and v is valid, no valid plan on one tip or two has more placement pairs, and none on a lower u, or on u and a lower v, has as many
pub record Junior (qs sets : List ℕ) (u v : ℕ) (plan : List ℕ) : Type 0 where
  pub own : Valid sets plan
  pub tips : OnTips u v plan
  pub most : (x y : ℕ) (other : List ℕ) → Valid sets other → OnTips x y other → pairs (repeated qs other) ≤ pairs (repeated qs plan)
  pub lowest : (x y : ℕ) (other : List ℕ) → Valid sets other → OnTips x y other
      → pairs (repeated qs other) ≡ pairs (repeated qs plan) → (u < x) ⊎ ((u ≡ x) × (v ≤ y))

-- ---- for proofs and leaf contracts: no call's contract speaks of these

-- the pairs of n placements where x are on one tip and the others on another
unfoldable pub side_pairs : ℕ → ℕ → ℕ
side_pairs n x = choose2 x + choose2 (n - x)

-- the score of tips that serve each of n placements, of which x have u and y have v: one tip, or each of two has some that lack the other
unfoldable pub score_by : Bool → ℕ → ℕ → ℕ → ℕ
score_by same n x y = cond (same || (ltb x n && ltb y n)) (1 + max (side_pairs n x) (side_pairs n y)) 0
