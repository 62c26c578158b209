-- The cases because of a board's state, which every call on a board asks first, as sentences.
use Rattle.std.specs.Prelude.{ℕ, suc, ◌≤◌, ◌<◌, ◌≡◌, ◌⊎◌, T, List, [], ◌∷◌, length, get_or, take}
use Rattle.model.specs.Plan.{has}
use Rattle.model.specs.Limits.{most_tips, most_lines, most_placements}
use Rattle.placements.specs.Repeated.{total}
use Rattle.refusal.specs.declared.Reason.TheVariants.{EmptyLine, TipOutside, ZeroQuantity}
use Rattle.refusal.specs.declared.Reason.TheVariants.{UnsoundBoard, UnsoundLine, HeldBehind, BoardClosed, BoardOpen}
use Rattle.cases.specs.Cases.{Case, plain, placed}
use Rattle.call_refusals.specs.declared.Stage.{Stage}
use Rattle.call_refusals.specs.declared.Stage.TheVariants.{Open, Closed}

-- a rack of m tips is empty or too large
abbrev pub RackOut : ℕ → Type 0
RackOut m = (m ≡ 0) ⊎ (most_tips < m)

-- or n lines are too many
abbrev pub OutOfRange : ℕ → ℕ → Type 0
OutOfRange m n = RackOut m ⊎ (most_lines < n)

-- the set has a tip outside a rack of m tips
abbrev pub HasOutside : ℕ → ℕ → Type 0
HasOutside m s = (t : ℕ) × (m ≤ t) × T (has s t)

-- 2, 3 or 15 of a line with set s and quantity q
abbrev pub line_cases : ℕ → ℕ → ℕ → List Case
line_cases m s q = plain EmptyLine (s ≡ 0) ∷ plain TipOutside (HasOutside m s) ∷ plain ZeroQuantity (q ≡ 0) ∷ []

-- line i has an empty set, a tip outside a rack of m tips or quantity 0, or with it the placements pass the limit
pub data Wrong (m : ℕ) (qs lines : List ℕ) (i : ℕ) : Type 0 where
  no_tip : get_or lines i 0 ≡ 0 → Wrong m qs lines i
  tip_outside : HasOutside m (get_or lines i 0) → Wrong m qs lines i
  quantity_0 : get_or qs i 0 ≡ 0 → Wrong m qs lines i
  too_many : most_placements < total (take (suc i) qs) → Wrong m qs lines i

-- place i holds a set that is not empty, or a quantity that is not 0
abbrev pub Holds : List ℕ → List ℕ → ℕ → Type 0
Holds qs sets i = (get_or sets i 0 ≡ 0 → ⊥) ⊎ (get_or qs i 0 ≡ 0 → ⊥)

-- 22 of add and close, which ask for an open board, 23 of the other calls, which ask for a closed one
abbrev pub stage_case : Stage → Stage → Case
stage_case Open held = plain BoardClosed (held ≡ Closed)
stage_case Closed held = plain BoardOpen (held ≡ Open)

-- 21, 27 and 28, then 22 or 23: rack m, n lines, and the sets and quantities of all places
abbrev pub state_cases : Stage → ℕ → Stage → ℕ → List ℕ → List ℕ → List Case
state_cases asked m held n qs sets =
    plain UnsoundBoard (OutOfRange m n)
    ∷ placed UnsoundLine (λ i. (i < length (take n sets)) × Wrong m (take n qs) (take n sets) i)
    ∷ placed HeldBehind (λ i. (n ≤ i) × (i < length sets) × Holds qs sets i)
    ∷ stage_case asked held
    ∷ []
