-- The occurrences of at most eight tips, a count for each.
use Rattle.std.specs.Prelude.{ℕ, ◌+◌, ◌^◌, ◌<◌, ◌≡◌, cond, List, length, get_or}
use Rattle.model.specs.Plan.{has, occ}

-- the count of tip t
abbrev pub count_in : List ℕ → ℕ → ℕ
count_in counts t = get_or counts t 0

-- the occurrences of each tip
pub record CountsOf (lines counts : List ℕ) : Type 0 where
  pub size : length counts ≡ 8
  pub counted : (t : ℕ) → t < 8 → count_in counts t ≡ occ lines t

-- each count has room in 16 bits for q more
abbrev pub HasRoom : ℕ → List ℕ → Type 0
HasRoom q counts = (t : ℕ) → t < 8 → count_in counts t + q < 2 ^ 16

-- q placements of a set more
abbrev pub AddsLine : ℕ → ℕ → List ℕ → List ℕ → Type 0
AddsLine q set counts counts' = (t : ℕ) → t < 8 → count_in counts' t ≡ count_in counts t + cond (has set t) q 0
