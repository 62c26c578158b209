-- The lines whose quantity has a binary digit, and the bounds of the quantities.
use Rattle.std.specs.Prelude.{ℕ, ◌≤◌, cond}
use mathlib.Core.List.{List, zip_with}
use Rattle.model.specs.Count.{All}
use Rattle.model.specs.Plan.{has}

-- a set whose quantity q has the digit j, else no tip
unfoldable pub pick_by : ℕ → ℕ → ℕ → ℕ
pick_by j q s = cond (has q j) s 0

-- each line so
abbrev pub picked : ℕ → List ℕ → List ℕ → List ℕ
picked j qs lines = zip_with (pick_by j) qs lines

-- each quantity is within the bounds
pub record Between (least most : ℕ) (qs : List ℕ) : Type 0 where
  pub low : All (λ q. least ≤ q) qs
  pub high : All (λ q. q ≤ most) qs
