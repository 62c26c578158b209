-- The table of pairs: each place has the pairs among as many placements.
use Prim.Native.Nat.{ℕ, zero, suc, ◌+◌, ◌<◌, ◌≤◌}
use mathlib.Core.Path.{◌≡◌, refl}
use mathlib.Core.List.{List, [], ◌∷◌}
use native.Mathlib.Omega.{arith}
use native.Mathlib.Nat.{add-zero, zero-add}
use lib.Dec.{T, eqb, eqb→eq}
use lib.ListN.{length, get_or}
use Rattle.model.specs.Limits.{most_placements}
use Rattle.model.specs.Plan.{choose2}
use Rattle.model.proofs.Tests.{and_left, and_right}
use Rattle.pair_count.specs.PairTable.{is_pairs, PairTable}
use Rattle.pair_count.specs.declared.TheConstants.{PAIRS}

from : (i : ℕ) (xs : List ℕ) → T (is_pairs i xs) → (k : ℕ) → k < length xs → get_or xs k 0 ≡ choose2 (i + k)
unfolding is_pairs
from i [] t k h = absurd (omega arith)
from i (x ∷ xs) t zero h = rw add-zero (eqb→eq x (choose2 i) (and_left (eqb x (choose2 i)) (is_pairs (suc i) xs) t))
from i (x ∷ xs) t (suc k) h =
    let e : i + suc k ≡ suc i + k = omega arith in
    rw e (from (suc i) xs (and_right (eqb x (choose2 i)) (is_pairs (suc i) xs) t) k (omega arith))

-- the test of the whole table, carried to each entry
pub pairs-at : {table : List ℕ} → PairTable table → (p : ℕ) → p ≤ most_placements → get_or table p 0 ≡ choose2 p
pairs-at {table} t p h = rw zero-add at (from 0 table t.right p (omega (arith, t.size)))

-- the whole table is computed
pub PAIRS_pass : PairTable PAIRS
unfolding is_pairs choose2
PAIRS_pass = record { size = refl; right = tt }

pub PAIRS_at : (p : ℕ) → p ≤ most_placements → get_or PAIRS p 0 ≡ choose2 p
PAIRS_at = pairs-at PAIRS_pass
