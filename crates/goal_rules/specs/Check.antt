-- Check a plan, a claimed pair count and a table from other software, for lines that are runs of the named tips.
use Rattle.std.specs.Prelude.{ℕ, zero, suc, ◌+◌, ◌*◌, ◌-◌, ◌≡◌, Bool, true, false, not, ◌&&◌, ◌||◌, List, [], ◌∷◌, leb, get_or}
use Rattle.model.specs.Count.{every}
use Rattle.model.specs.Plan.{has, Valid, pairs}
use Rattle.model.specs.Interval.{named, split, Dominates}
use Rattle.placements.specs.Repeated.{repeated}

-- the table's entry for the interval of w tips from a: at a * m + b, where b is its last tip; 0 for an interval of no tip
unfoldable pub entry : ℕ → List ℕ → ℕ → ℕ → ℕ
entry m tab a zero = 0
entry m tab a (suc w) = get_or tab (a * m + (a + w)) 0

-- what is accepted: each line is on a tip of its own, the claim is the plan's count and the table's entry for the whole rack, and for each
-- interval and each named tip in it the entry is at least the pairs on the tip plus the entries of the two intervals beside it
pub record Accepted (m : ℕ) (qs sets plan : List ℕ) (claim : ℕ) (tab : List ℕ) : Type 0 where
  pub own : Valid sets plan
  pub counted : claim ≡ pairs (repeated qs plan)
  pub whole : entry m tab 0 m ≡ claim
  pub bounded : Dominates (named sets) m (repeated qs sets) (entry m tab)

-- the test of a valid plan
unfoldable pub is_valid : List ℕ → List ℕ → Bool
is_valid [] [] = true
is_valid [] (t ∷ plan) = false
is_valid (s ∷ lines) [] = false
is_valid (s ∷ lines) (t ∷ plan) = has s t && is_valid lines plan

-- the test at one tip: it is not ok, or the table is at least the split of the interval there
abbrev pub at_tip : (ℕ → Bool) → ℕ → List ℕ → List ℕ → ℕ → ℕ → ℕ → Bool
at_tip ok m lines tab a w i = not (ok (a + i)) || leb (split (entry m tab) lines a w i) (entry m tab a w)

-- and so at each tip of each interval
unfoldable pub bounds : (ℕ → Bool) → ℕ → List ℕ → List ℕ → Bool
bounds ok m lines tab = every (λ a. every (λ w. every (at_tip ok m lines tab a w) w) (m - a + 1)) m
