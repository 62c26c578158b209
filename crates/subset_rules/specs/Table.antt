-- The table of exact sharing: two places for each set of the named tips.
-- Bit i of a place's number stands for the i-th named tip, the lowest first. Where r tips are named, place U has z(U), and place 2^r + U has E(U).
use Rattle.std.specs.Prelude.{ℕ, ◌*◌, ◌^◌, Bool, ◌&&◌, List, ◌++◌}
use Rattle.model.specs.Count.{list_of}
use Rattle.model.specs.Plan.{has}
use Rattle.model.specs.CommonTip.{set_of}
use Rattle.model.specs.Interval.{named}
use Rattle.model.specs.Renumber.{rank}
use Rattle.subset_rules.specs.Subsets.{lying, score}

-- the places of the table where r tips are named
abbrev pub table_places : ℕ → ℕ
table_places r = 2 * 2 ^ r

-- the set of tips below m at place u, where the named tips are those that pass the test
unfoldable pub tips_at : (ℕ → Bool) → ℕ → ℕ → ℕ
tips_at ok m u = set_of (λ t. ok t && has u (rank ok t)) m

-- z of all sets of the named tips, then E
unfoldable pub exact_table : ℕ → ℕ → List ℕ → List ℕ
exact_table price m lines =
    let z = lying m lines in
    let set = tips_at (named lines) m in
    let sets = 2 ^ rank (named lines) m in
    list_of (λ u. z (set u)) sets ++ list_of (λ u. score price z m (set u)) sets

-- ---- for proofs and leaf contracts: no call's contract speaks of this

-- the table where each of r tips is named
abbrev pub rank_table : ℕ → ℕ → List ℕ → List ℕ
rank_table price r lines = list_of (lying r lines) (2 ^ r) ++ list_of (score price (lying r lines) r) (2 ^ r)
