-- What the table of best sharing means: each entry is the most pairs of the lines within its interval of tips.
use Rattle.std.specs.Prelude.{ℕ, ◌+◌, ◌*◌, ◌-◌, ◌≤◌, ◌<◌, ◌≡◌, cond, List, [], ◌∷◌, get_or}
use Rattle.model.specs.Count.{select}
use Rattle.model.specs.Plan.{Valid, pairs}
use Rattle.model.specs.Interval.{lies}
use Rattle.placements.specs.Repeated.{repeated}

-- the sets of the lines that lie within the w tips from a
abbrev pub sets_within : ℕ → ℕ → List ℕ → List ℕ
sets_within a w sets = select (lies a w) sets

-- and their quantities
unfoldable pub quantities_within : ℕ → ℕ → List ℕ → List ℕ → List ℕ
quantities_within a w [] sets = []
quantities_within a w (q ∷ qs) [] = []
quantities_within a w (q ∷ qs) (s ∷ sets) = cond (lies a w s) (q ∷ quantities_within a w qs sets) (quantities_within a w qs sets)

-- some valid plan has x placement pairs, and no valid plan has more
pub record MostPairs (qs lines : List ℕ) (x : ℕ) : Type 0 where
  pub reached : (plan : List ℕ) × Valid lines plan × (pairs (repeated qs plan) ≡ x)
  pub most : (plan : List ℕ) → Valid lines plan → pairs (repeated qs plan) ≤ x

-- where best sharing is accepted, the entry a * m + b is the most placement pairs of the lines within the tips from a to b
abbrev pub TableRule : ℕ → List ℕ → List ℕ → List ℕ → ℕ → Type 0
TableRule m qs lines table number =
    number ≡ 0 → (a b : ℕ) → a < m → b < m
    → MostPairs (quantities_within a (b + 1 - a) qs lines) (sets_within a (b + 1 - a) lines) (get_or table (a * m + b) 0)
