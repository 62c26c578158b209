-- The pairs of one interval of tips, from the sums of lines and a table of the most pairs.
-- For proofs and leaf contracts: no call's contract speaks of these.
use Rattle.std.specs.Prelude.{ℕ, ◌+◌, ◌*◌, ◌-◌, ◌≤◌, ◌<◌, ◌≡◌, List, length}
use Rattle.model.specs.Limits.{most_placements}
use Rattle.model.specs.Plan.{choose2}
use Rattle.model.specs.Interval.{C}
use Rattle.spans.specs.Spans.{sums_size, sum_at, inside_by}
use Rattle.goal_rules.specs.Check.{entry}

-- the pairs on tip c, with q placements more, of the lines lying within the interval, from the sums
unfoldable pub pairs_by : ℕ → List ℕ → ℕ → ℕ → ℕ → ℕ → ℕ
pairs_by m xs q a w c = choose2 (inside_by m xs a w c + q)

-- the pairs of the interval if tip a + i takes its lines and q placements more, from the sums and the inside table
unfoldable pub split_by : ℕ → List ℕ → List ℕ → ℕ → ℕ → ℕ → ℕ → ℕ
split_by m xs inner q a w i = pairs_by m xs q a w (a + i) + (entry m inner a i + entry m inner (a + i + 1) (w - (i + 1)))

-- the placements of the lines lying within the interval that do not end before tip l or begin after tip h, from four places of the sums
unfoldable pub meeting_by : ℕ → List ℕ → ℕ → ℕ → ℕ → ℕ → ℕ
meeting_by m xs l h a w = sum_at m xs (h + 1) (a + w) + sum_at m xs a l - sum_at m xs a (a + w) - sum_at m xs l l

-- the interval and the tips are in the rack, and the four places can be added and subtracted
pub record Meeting (m : ℕ) (xs : List ℕ) (l h a w : ℕ) : Type 0 where
  pub size : length xs ≡ sums_size m
  pub ends : a + w ≤ m
  pub from : l ≤ h
  pub to : h < m
  pub small : sum_at m xs (h + 1) (a + w) + sum_at m xs a l ≤ 2 * most_placements
  pub covers : sum_at m xs a (a + w) + sum_at m xs l l ≤ sum_at m xs (h + 1) (a + w) + sum_at m xs a l
  pub few : meeting_by m xs l h a w ≤ most_placements

-- the inside table
pub record InsideAll (m : ℕ) (lines tab : List ℕ) : Type 0 where
  pub room : m * m ≤ length tab
  pub entries : (a w : ℕ) → a + w ≤ m → entry m tab a w ≡ C lines a w
