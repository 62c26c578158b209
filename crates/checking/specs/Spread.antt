-- A table that is spread, as best sharing leaves it: a tip that is not named has the row of the next tip and the column of the tip before.
-- For proofs and leaf contracts: no call's contract speaks of these.
use Rattle.std.specs.Prelude.{ℕ, ◌+◌, ◌-◌, ◌*◌, ◌<◌, ◌≡◌, Bool, cond, ◌&&◌, ◌||◌, ◌==◌, List, length, get_or}
use Rattle.model.specs.Count.{every}
use Rattle.model.specs.Plan.{has}
use Rattle.model.specs.Renumber.{tip_at}

-- the place of tips a and b in a table for m tips
abbrev pub cell : ℕ → List ℕ → ℕ → ℕ → ℕ
cell m tab a b = get_or tab (a * m + b) 0

-- after its own place, the row of tip a is that of the next tip
unfoldable pub row_copied : ℕ → List ℕ → ℕ → Bool
row_copied m tab a = every (λ j. cell m tab a (a + 1 + j) == cell m tab (a + 1) (a + 1 + j)) (m - (a + 1))

-- after its own place, each tip that is not named has in the row of tip a the number of the tip before it
unfoldable pub columns_copied : ℕ → ℕ → List ℕ → ℕ → Bool
columns_copied names m tab a = every (λ j. has names (a + 1 + j) || (cell m tab a (a + 1 + j) == cell m tab a (a + j))) (m - (a + 1))

-- the row of a named tip has copied columns; that of another tip is copied, and its own place is 0
unfoldable pub row_spread : ℕ → ℕ → List ℕ → ℕ → Bool
row_spread names m tab a = cond (has names a) (columns_copied names m tab a) (cell m tab a a == 0 && row_copied m tab a)

-- and so each row
unfoldable pub is_spread : ℕ → ℕ → List ℕ → Bool
is_spread names m tab = every (row_spread names m tab) m

-- the numbers of the tips of the ranks below i, and of rank i with those of the ranks below j, are at the places of their ranks
pub record Gathered (names m r : ℕ) (tab own : List ℕ) (i j : ℕ) : Type 0 where
  pub size : length own ≡ r * r
  pub rows : (d e : ℕ) → d < i → e < r → get_or own (d * r + e) 0 ≡ cell m tab (tip_at (has names) m d) (tip_at (has names) m e)
  pub row : (e : ℕ) → e < j → get_or own (i * r + e) 0 ≡ cell m tab (tip_at (has names) m i) (tip_at (has names) m e)
