-- What the sums and the two tables of all lines tell of a line's tips, before the other lines are summed.
-- For proofs and leaf contracts: no call's contract speaks of these.
use Rattle.std.specs.Prelude.{ℕ, ◌+◌, ◌*◌, ◌-◌, ◌≤◌, ◌<◌, max, ◌≡◌, Bool, false, cond, ◌&&◌, List, T, leb, ltb, length, get_or}
use Rattle.model.specs.Limits.{most_placements}
use Rattle.model.specs.Plan.{has, choose2}
use Rattle.spans.specs.Spans.{inside_by}
use Rattle.goal_rules.specs.Check.{entry}
use Rattle.goal_rules.specs.Tables.{Whole}
use Rattle.intervals.specs.Splits.{Meeting, meeting_by}
use Rattle.striking.specs.Striking.{tips_by}

-- K pairs can be had through the interval
unfoldable pub live_by : ℕ → List ℕ → List ℕ → ℕ → ℕ → ℕ → Bool
live_by m inner upper K a w = leb K (entry m upper a w + entry m inner a w)

-- of each first tip below n the width of the widest interval through which K pairs can be had, or 0
pub record Widest (m : ℕ) (inner upper : List ℕ) (K : ℕ) (widest : List ℕ) (n : ℕ) : Type 0 where
  pub room : length widest ≡ m
  pub inside : (a : ℕ) → a < n → a + get_or widest a 0 ≤ m
  pub past : (a w : ℕ) → a < n → a + w ≤ m → get_or widest a 0 < w → live_by m inner upper K a w ≡ false

-- ---- the first tips

-- the tips of the set s at which a split of the interval has K pairs with those outside
unfoldable pub firsts_by : ℕ → List ℕ → List ℕ → List ℕ → ℕ → ℕ → ℕ → ℕ → ℕ → ℕ
firsts_by m xs inner upper q s K a w = cond (live_by m inner upper K a w) (tips_by m xs inner q s K (entry m upper a w) a w) 0

-- an interval that has the line s whole finds tip t
abbrev pub Finds : ℕ → ℕ → (ℕ → ℕ → ℕ) → ℕ → Type 0
Finds m s f t = (a : ℕ) × (w : ℕ) × Whole m s a w × T (has (f a w) t)

-- the tips found by the intervals with a first tip below a, and by those of first tip a that are narrower than w
pub record Found (m s : ℕ) (f : ℕ → ℕ → ℕ) (known a w : ℕ) : Type 0 where
  pub right : (t : ℕ) → T (has known t) → Finds m s f t
  pub rows : (b v t : ℕ) → b < a → Whole m s b v → T (has (f b v) t) → T (has known t)
  pub row : (v t : ℕ) → v < w → Whole m s a v → T (has (f a v) t) → T (has known t)

-- ---- the starts, for open tips from f to g

-- the placements of the lines before tip c of the interval that can share an open tip, and of those behind it
unfoldable pub before_most : ℕ → List ℕ → ℕ → ℕ → ℕ → ℕ
before_most m xs f a c = cond (ltb f c) (meeting_by m xs f (c - 1) a (c - a)) 0

unfoldable pub behind_most : ℕ → List ℕ → ℕ → ℕ → ℕ → ℕ → ℕ
behind_most m xs g a w c = cond (ltb c g) (meeting_by m xs (c + 1) g (c + 1) (a + w - (c + 1))) 0

-- the pairs of the interval if tip c takes its lines but for q of them, and these add `more`
unfoldable pub parted_by : ℕ → List ℕ → List ℕ → ℕ → ℕ → ℕ → ℕ → ℕ → ℕ
parted_by m xs inner q a w c more =
    choose2 (inside_by m xs a w c - q) + (entry m inner a (c - a) + entry m inner (c + 1) (a + w - (c + 1))) + (more + choose2 q)

-- tip c of the line s takes the others of the interval, and an open tip beside it can have K pairs
unfoldable pub starts_by : ℕ → List ℕ → List ℕ → List ℕ → ℕ → ℕ → ℕ → ℕ → ℕ → ℕ → ℕ → ℕ → Bool
starts_by m xs inner upper q s f g K a w c = has s c
    && leb K (entry m upper a w + parted_by m xs inner q a w c (q * max (before_most m xs f a c) (behind_most m xs g a w c)))

-- and K pairs can be had through the interval
unfoldable pub leaves_by : ℕ → List ℕ → List ℕ → List ℕ → ℕ → ℕ → ℕ → ℕ → ℕ → ℕ → ℕ → ℕ → Bool
leaves_by m xs inner upper q s f g K a w c = live_by m inner upper K a w && starts_by m xs inner upper q s f g K a w c

-- of the sums it can be read what the line s, of quantity q, leaves at each of its tips
pub record Leaving (m q s f g : ℕ) (xs : List ℕ) : Type 0 where
  pub own : q ≤ most_placements
  pub covers : (a w c : ℕ) → Whole m s a w → T (has s c) → q ≤ inside_by m xs a w c
  pub before : (a w c : ℕ) → Whole m s a w → T (has s c) → f < c → Meeting m xs f (c - 1) a (c - a)
  pub behind : (a w c : ℕ) → Whole m s a w → T (has s c) → c < g → Meeting m xs (c + 1) g (c + 1) (a + w - (c + 1))
