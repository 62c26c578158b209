-- The most pairs outside an interval, from the sums of lines and the two tables; and the outside table.
-- For proofs and leaf contracts: no call's contract speaks of these.
use Rattle.std.specs.Prelude.{ℕ, ◌+◌, ◌*◌, ◌-◌, ◌≤◌, ◌<◌, max, ◌≡◌, Bool, List, length}
use Rattle.model.specs.Count.{largest}
use Rattle.model.specs.Interval.{C}
use Rattle.goal_rules.specs.Check.{entry}
use Rattle.goal_rules.specs.Tables.{Out, always}
use Rattle.intervals.specs.Splits.{pairs_by}

-- the pairs outside an interval beside tip c of the interval of first tip e and width v, where that of first tip f and width x is on the other side
unfoldable pub outside_by : ℕ → List ℕ → List ℕ → List ℕ → ℕ → ℕ → ℕ → ℕ → ℕ → ℕ
outside_by m xs inner outer e v c f x = entry m outer e v + (pairs_by m xs 0 e v c + entry m inner f x)

-- the interval lies before the tip, or behind it
abbrev pub before_by : ℕ → List ℕ → List ℕ → List ℕ → ℕ → ℕ → ℕ → ℕ
before_by m xs inner outer a w j = outside_by m xs inner outer a (w + 1 + j) (a + w) (a + w + 1) j

abbrev pub behind_by : ℕ → List ℕ → List ℕ → List ℕ → ℕ → ℕ → ℕ → ℕ
behind_by m xs inner outer a w j = outside_by m xs inner outer j (a - j + w) (a - 1) j (a - (j + 1))

-- the most pairs outside the interval, by the sums and the two tables
abbrev pub around_by : ℕ → List ℕ → List ℕ → List ℕ → ℕ → ℕ → ℕ
around_by m xs inner outer a w =
    max (largest (before_by m xs inner outer a w) (m - (a + w))) (largest (behind_by m xs inner outer a w) a)

-- the outside table in the making: the intervals wider than w are right, and those of width w with a first tip below a
pub record Outside (m : ℕ) (is_open : ℕ → ℕ → ℕ → Bool) (D : ℕ → ℕ → ℕ) (lines tab : List ℕ) (w a : ℕ) : Type 0 where
  pub room : m * m ≤ length tab
  pub wider : (b v : ℕ) → w < v → b + v ≤ m → entry m tab b v ≡ Out is_open m D lines b v
  pub row : (b : ℕ) → b < a → b + w ≤ m → entry m tab b w ≡ Out is_open m D lines b w

-- and whole
abbrev pub OutsideAll : ℕ → List ℕ → List ℕ → Type 0
OutsideAll m lines tab = Outside m always (C lines) lines tab 0 0
