-- The tip of an interval, found by the sums of the lines and the table of the intervals.
-- For proofs and leaf contracts: no call's contract speaks of these.
use Rattle.std.specs.Prelude.{ℕ, ◌+◌, ◌*◌, ◌≤◌, ◌<◌, ◌≡◌, List, length}
use Rattle.model.specs.Count.{largest, lowest_at}
use Rattle.model.specs.Choice.{Mounted, choice, from}
use Rattle.spans.specs.Spans.{Ready}
use Rattle.goal_rules.specs.Check.{entry}
use Rattle.intervals.specs.Splits.{split_by}

-- the lowest tip, less a, at which the split of the interval is largest, by the sums and the table
unfoldable pub lowest_by : ℕ → List ℕ → List ℕ → ℕ → ℕ → ℕ
lowest_by m sums table a w = lowest_at (split_by m sums table 0 a w) w

-- of all such tips the mounted one, else the lowest
unfoldable pub pick_by : Mounted → ℕ → List ℕ → List ℕ → ℕ → ℕ → ℕ
pick_by mounted m sums table a w = choice (from a mounted) (split_by m sums table 0 a w) w

-- what the search for an interval's tip takes from them, whatever the lines are
pub record Searchable (m : ℕ) (sums table : List ℕ) : Type 0 where
  pub some : 0 < m
  pub size : length table ≡ m * m
  pub readable : Ready m 0 sums
  pub most : (a w : ℕ) → a + w ≤ m → entry m table a w ≡ largest (split_by m sums table 0 a w) w
