-- The table of pairs: a place for each number of placements.
-- For proofs: no contract of a call speaks of these.
use Rattle.std.specs.Prelude.{ℕ, suc, ◌+◌, ◌≡◌, Bool, true, ◌&&◌, List, [], ◌∷◌, T, eqb, length}
use Rattle.model.specs.Limits.{most_placements}
use Rattle.model.specs.Plan.{choose2}

-- the test of a whole table: each place p has the pairs among p placements
unfoldable pub is_pairs : ℕ → List ℕ → Bool
is_pairs p [] = true
is_pairs p (x ∷ table) = eqb x (choose2 p) && is_pairs (suc p) table

-- a table that passes it, for up to the most placements
pub record PairTable (table : List ℕ) : Type 0 where
  pub size : length table ≡ most_placements + 1
  pub right : T (is_pairs 0 table)
