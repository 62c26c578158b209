-- The table of the most pairs of each interval, column by column: column b has the intervals that end with tip b.
-- For proofs and leaf contracts: no call's contract speaks of these.
use Rattle.std.specs.Prelude.{ℕ, ◌+◌, ◌*◌, ◌-◌, ◌≤◌, ◌<◌, ◌≡◌, List, ◌++◌, length, get_or, drop, replicate}
use Rattle.model.specs.Limits.{most_tips, most_placements, most_pairs}
use Rattle.model.specs.Count.{list_of, largest}
use Rattle.model.specs.Plan.{choose2}
use Rattle.model.specs.Interval.{C}
use Rattle.spans.specs.Spans.{sums_size, sum_at, RunSums}
use Rattle.goal_rules.specs.Check.{entry}

-- the pairs of an interval if a tip takes allow + sum - base lines, and left and right are the most pairs of the intervals beside it
unfoldable pub split_of : ℕ → ℕ → ℕ → ℕ → ℕ → ℕ
split_of base allow sum left right = choose2 (allow + sum - base) + (left + right)

-- these numbers can be added and subtracted
pub record Small (base allow sum left right : ℕ) : Type 0 where
  pub covers : base ≤ allow + sum
  pub few : allow + sum ≤ base + most_placements
  pub fits : allow + sum ≤ 2 * most_placements
  pub lefts : left ≤ most_tips * most_pairs
  pub rights : right ≤ most_tips * most_pairs

-- split_of at place i of each list
abbrev pub split_at : ℕ → List ℕ → List ℕ → List ℕ → List ℕ → ℕ → ℕ
split_at base allows sums lefts rights i = split_of base (get_or allows i 0) (get_or sums i 0) (get_or lefts i 0) (get_or rights i 0)

-- the largest of these
abbrev pub largest_at : ℕ → List ℕ → List ℕ → List ℕ → List ℕ → ℕ
largest_at base allows sums lefts rights = largest (split_at base allows sums lefts rights) (length allows)

-- lists of one length, with small numbers at each place
pub record SplitLists (base : ℕ) (allows sums lefts rights : List ℕ) : Type 0 where
  pub as_sums : length sums ≡ length allows
  pub as_lefts : length lefts ≡ length allows
  pub as_rights : length rights ≡ length allows
  pub small : (i : ℕ) → i < length allows → Small base (get_or allows i 0) (get_or sums i 0) (get_or lefts i 0) (get_or rights i 0)

-- how many lines that allow tip c have no tip after b
abbrev pub allow : ℕ → List ℕ → ℕ → ℕ → ℕ
allow m xs b c = sum_at m xs (c + 1) (b + 1) - sum_at m xs (c + 1) c

-- there is a place for each c to b, and no difference goes below zero
pub record Differences (m : ℕ) (xs : List ℕ) (b : ℕ) (allows : List ℕ) : Type 0 where
  pub sums-size : length xs ≡ sums_size m
  pub ends : b < m
  pub room : b < length allows
  pub covers : (c : ℕ) → c ≤ b → sum_at m xs (c + 1) c ≤ sum_at m xs (c + 1) (b + 1)

-- this count for each c to b; the other places are as they were
unfoldable pub allows_of : ℕ → List ℕ → ℕ → List ℕ → List ℕ
allows_of m xs b old = list_of (allow m xs b) (b + 1) ++ drop (b + 1) old

-- a column has a place for each tip, and one more
abbrev pub column_size : ℕ
column_size = most_tips + 1

unfoldable pub zeros : List ℕ
zeros = replicate column_size 0

-- the table at row a and column b
abbrev pub table_at : ℕ → List ℕ → ℕ → ℕ → ℕ
table_at m table a b = get_or table (a * m + b) 0

-- the pairs of the interval from a to b if tip a + i takes its lines, from the counts to b, the sums, row a of the table, and column b below row a
abbrev pub split_from : ℕ → ℕ → ℕ → List ℕ → List ℕ → List ℕ → List ℕ → ℕ → ℕ
split_from m a b xs allows column table i =
    split_of (sum_at m xs a (b + 1)) (get_or allows (a + i) 0) (sum_at m xs a (a + i)) (entry m table a i) (get_or column (a + i + 1) 0)

-- the most pairs of the interval from a to b, from these lists
unfoldable pub cell_by : ℕ → ℕ → ℕ → List ℕ → List ℕ → List ℕ → List ℕ → ℕ
cell_by m a b xs allows column table = largest (split_from m a b xs allows column table) (b + 1 - a)

-- the interval from a to b is in the rack, and the numbers of each of its splits are small
pub record Cell (m a b : ℕ) (xs allows column table : List ℕ) : Type 0 where
  pub rack : m ≤ most_tips
  pub ends : b < m
  pub from : a ≤ b
  pub sums-size : length xs ≡ sums_size m
  pub allows_size : length allows ≡ column_size
  pub column-size : length column ≡ column_size
  pub table_size : length table ≡ m * m
  pub small : (i : ℕ) → i < b + 1 - a
      → Small (sum_at m xs a (b + 1)) (get_or allows (a + i) 0) (sum_at m xs a (a + i)) (entry m table a i) (get_or column (a + i + 1) 0)

-- the table in the making: the columns before b are right, and below the diagonal it is 0
pub record Columns (m : ℕ) (lines table : List ℕ) (b : ℕ) : Type 0 where
  pub size : length table ≡ m * m
  pub done : (d e : ℕ) → d < m → e < b → e < m → table_at m table d e ≡ C lines d (e + 1 - d)
  pub lower : (d e : ℕ) → e < d → d < m → table_at m table d e ≡ 0

-- and this for all lines that have these sums
abbrev pub ColumnsBy : ℕ → List ℕ → List ℕ → ℕ → Type 0
ColumnsBy m xs table b = (lines : List ℕ) → RunSums m 0 lines xs → Columns m lines table b
