-- What the parts of exact sharing are given, and what they give.
-- For proofs and leaf contracts: no call's contract speaks of these.
use Rattle.std.specs.Prelude.{ℕ, ◌^◌, ◌≤◌, ◌<◌, ◌≡◌, List, T, length}
use Rattle.model.specs.Limits.{most_tips, most_pairs}
use Rattle.model.specs.Plan.{has}
use Rattle.model.specs.Interval.{named}
use Rattle.model.specs.Renumber.{rank}
use Rattle.placements.specs.Good.{GoodLines}
use Rattle.ranks.specs.Listed.{Ranks}
use Rattle.subset_rules.specs.Exact.{most_named}
use Rattle.subset_rules.specs.Table.{table_places}
use Rattle.subset_rules.specs.Chains.{Chain, pairs_by}
use Rattle.subset_table.specs.Counting.{NarrowLines}
use Rattle.subset_table.specs.Scores.{at, Counted}

-- the pairs of the plan by the tips can be summed from the counts
pub record Summable (counts : List ℕ) (all : ℕ) (tips : List ℕ) : Type 0 where
  pub m : ℕ
  pub counted : Counted m counts
  pub inside : all < 2 ^ m
  pub chain : Chain tips all
  pub few : pairs_by (at counts) tips all ≤ most_pairs

-- lines whose tips are below m, the plan a place for each line, and the table two for each set of m tips
pub record RanksLent (m : ℕ) (qs sets plan table : List ℕ) : Type 0 where
  pub lines : NarrowLines m qs sets
  pub bytes : length plan ≡ length sets
  pub places : length table ≡ table_places m

-- good lines that name at most 20 tips, the plan a place for each line, and the table two for each set of the named tips
pub record BoardLent (m : ℕ) (qs sets plan table : List ℕ) : Type 0 where
  pub good : GoodLines m qs sets
  pub few_tips : rank (named sets) m ≤ most_named
  pub bytes : length plan ≡ length sets
  pub places : length table ≡ table_places (rank (named sets) m)

-- the list has the ranks of the named tips, which are few; and the set has named tips alone
pub record Renumbering (names m : ℕ) (list : List ℕ) (set : ℕ) : Type 0 where
  pub listed : Ranks (has names) m list
  pub narrow : m ≤ most_tips
  pub few : rank (has names) m ≤ most_named
  pub own : (t : ℕ) → T (has set t) → T (has names t)
