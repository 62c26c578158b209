-- The table of a board from the table of the board renumbered.
-- For proofs and leaf contracts: no call's contract speaks of these.
use Rattle.std.specs.Prelude.{ℕ, ◌+◌, ◌-◌, ◌*◌, ◌/◌, ◌%◌, ◌≤◌, ◌<◌, ◌≡◌, Bool, cond, List, ltb, length, get_or}
use Rattle.model.specs.Count.{list_of}
use Rattle.model.specs.Plan.{has}
use Rattle.model.specs.Renumber.{rank}

-- the number of the table of r columns for the ranks from first to before end; 0 where there is none
unfoldable pub cell_at : ℕ → List ℕ → ℕ → ℕ → ℕ
cell_at r table first end = cond (ltb first end) (get_or table (first * r + (end - 1)) 0) 0

-- the number for the tips a to b
unfoldable pub cell_of : (ℕ → Bool) → ℕ → List ℕ → ℕ → ℕ → ℕ
cell_of ok r table a b = cell_at r table (rank ok a) (rank ok (b + 1))

-- this number at a * m + b for all tips a and b below m
unfoldable pub spread : (ℕ → Bool) → ℕ → ℕ → List ℕ → List ℕ
spread ok m r table = list_of (λ k. cell_of ok r table (k / m) (k % m)) (m * m)

-- row a is spread from place b on; all other places are as they were
pub record RowDone (set m r a b : ℕ) (old table : List ℕ) : Type 0 where
  pub size : length table ≡ length old
  pub done : (e : ℕ) → b ≤ e → e < m → get_or table (a * m + e) 0 ≡ cell_of (has set) r old a e
  pub early : (k : ℕ) → k < a * m + b → get_or table k 0 ≡ get_or old k 0
  pub late : (k : ℕ) → a * m + m ≤ k → get_or table k 0 ≡ get_or old k 0

-- the first b places of row a are as those of the next row; all other places are as they were
pub record RowCopied (m a b : ℕ) (old table : List ℕ) : Type 0 where
  pub size : length table ≡ length old
  pub done : (e : ℕ) → e < b → get_or table (a * m + e) 0 ≡ get_or old (a * m + m + e) 0
  pub early : (k : ℕ) → k < a * m → get_or table k 0 ≡ get_or old k 0
  pub late : (k : ℕ) → a * m + b ≤ k → get_or table k 0 ≡ get_or old k 0

-- the rows from a on are spread; the places before them are as they were
pub record RowsDone (set m r a : ℕ) (old table : List ℕ) : Type 0 where
  pub size : length table ≡ length old
  pub done : (d e : ℕ) → a ≤ d → d < m → e < m → get_or table (d * m + e) 0 ≡ cell_of (has set) r old d e
  pub early : (k : ℕ) → k < a * m → get_or table k 0 ≡ get_or old k 0
