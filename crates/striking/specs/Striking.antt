-- Striking by the inside table of all lines and the outside table of the other lines, from the sums of their placements by lowest and highest tip.
use Rattle.std.specs.Prelude.{ℕ, ◌+◌, ◌*◌, ◌-◌, ◌/◌, ◌%◌, ◌≤◌, ◌<◌, ◌≡◌, Bool, cond, ◌&&◌, List, T, leb, ltb, length, get_or}
use Rattle.model.specs.Limits.{most_tips, most_placements, most_pairs}
use Rattle.model.specs.Count.{list_of}
use Rattle.model.specs.Plan.{has, choose2}
use Rattle.model.specs.CommonTip.{set_of}
use Rattle.model.specs.Interval.{low, high, inside as allowing, C}
use Rattle.placements.specs.Repeated.{repeated}
use Rattle.refusal.specs.Told.{Refusal}
use Rattle.refusal.specs.Refusal.{when, accepts}
use Rattle.spans.specs.Spans.{sums_width, sums_size, sum_at, RunSums}
use Rattle.goal_rules.specs.Check.{entry}
use Rattle.goal_rules.specs.Goal.{strike}
use Rattle.goal_rules.specs.Tables.{Out, always, Opened, ended, Ends}
use Rattle.intervals.specs.Splits.{split_by, meeting_by, Meeting, InsideAll}
use Rattle.intervals.specs.Outer.{Outside, OutsideAll}

-- the best plan has fewer than K pairs
unfoldable pub goal_refusal : ℕ → List ℕ → List ℕ → ℕ → Refusal
goal_refusal m qs sets K = when (ltb (C (repeated qs sets) 0 m) K) 34

-- the struck sets, or the buffer as it was where the goal is missed
unfoldable pub struck_by : ℕ → List ℕ → List ℕ → ℕ → List ℕ → List ℕ
struck_by m qs sets K old = cond (accepts (goal_refusal m qs sets K)) (strike m qs sets K) old

-- ---- for proofs and leaf contracts: no call's contract speaks of these

-- line j has the set and the quantity of line i
pub record Same (lines qs : List ℕ) (i j : ℕ) : Type 0 where
  pub set : get_or lines j 0 ≡ get_or lines i 0
  pub quantity : get_or qs j 0 ≡ get_or qs i 0

-- what a line with the tips low to high and quantity q adds at x and y of the sums
unfoldable pub own_at : ℕ → ℕ → ℕ → ℕ → ℕ → ℕ
own_at l h q x y = cond (ltb l x && ltb h y) q 0

-- the sums without the line s of quantity q
unfoldable pub sums_without : ℕ → List ℕ → ℕ → ℕ → List ℕ
sums_without m xs s q = list_of (λ k. get_or xs k 0 - own_at (low s) (high s) q (k / sums_width m) (k % sums_width m)) (sums_size m)

-- no sum goes below zero without the line
pub record Removable (m : ℕ) (xs : List ℕ) (s q : ℕ) : Type 0 where
  pub size : length xs ≡ sums_size m
  pub covers : (x y : ℕ) → x < sums_width m → y < sums_width m → own_at (low s) (high s) q x y ≤ sum_at m xs x y

-- so for each interval that has a tip of the set s, and q is few
pub record Counted (m q s : ℕ) (xs : List ℕ) : Type 0 where
  pub own : q ≤ most_placements
  pub meeting : (a w : ℕ) → a + w ≤ m → a ≤ high s → low s < a + w → Meeting m xs (low s) (high s) a w

-- no chain with `outside` pairs outside the interval has more pairs if it goes through it to a tip with q placements more: inside by the table
-- of all lines, and each of the q with all that lie within the interval and can share a tip of the set s
unfoldable pub limit_by : ℕ → List ℕ → List ℕ → ℕ → ℕ → ℕ → ℕ → ℕ → ℕ
limit_by m xs inner q s outside a w = outside + (entry m inner a w + (q * meeting_by m xs (low s) (high s) a w + choose2 q))

-- an interval is followed if it may have a tip of the set s, and with the pairs outside it a chain through it can have K pairs
unfoldable pub open_by : ℕ → List ℕ → List ℕ → ℕ → ℕ → ℕ → ℕ → ℕ → ℕ → Bool
open_by m xs inner q s K a w outside = leb a (high s) && (ltb (low s) (a + w) && leb K (limit_by m xs inner q s outside a w))

-- the tip t of the interval is in the set s, and takes its lines and q placements more for K pairs, with `outside` pairs outside the interval
unfoldable pub ends_by : ℕ → List ℕ → List ℕ → ℕ → ℕ → ℕ → ℕ → ℕ → ℕ → ℕ → Bool
ends_by m xs inner q s K outside a w t = leb a t && (has s t && leb K (outside + split_by m xs inner q a w (t - a)))

-- the tips of the set at which a chain ends in the interval
abbrev pub tips_by : ℕ → List ℕ → List ℕ → ℕ → ℕ → ℕ → ℕ → ℕ → ℕ → ℕ
tips_by m xs inner q s K outside a w = set_of (ends_by m xs inner q s K outside a w) (a + w)

-- what is stored of the pairs outside an interval, and the tips of the set left at which a chain ends in it: nothing where it is not open
unfoldable pub stored_by : ℕ → List ℕ → List ℕ → ℕ → ℕ → ℕ → ℕ → ℕ → ℕ → ℕ
stored_by m xs inner q s K outside a w = cond (open_by m xs inner q s K a w outside) outside 0

unfoldable pub followed_by : ℕ → List ℕ → List ℕ → ℕ → ℕ → ℕ → ℕ → ℕ → ℕ → ℕ → ℕ
followed_by m xs inner q s left K outside a w = cond (open_by m xs inner q s K a w outside) (tips_by m xs inner q left K outside a w) 0

-- the sums of some of the lines, and the two tables of all
pub record Known (m q : ℕ) (lines rest xs inner upper : List ℕ) : Type 0 where
  pub others : RunSums m q rest xs
  pub inside : InsideAll m lines inner
  pub outside : OutsideAll m lines upper
  pub fewer : (a w c : ℕ) → allowing rest a w c ≤ allowing lines a w c
  pub few : (a w : ℕ) → a + w ≤ m → Out always m (C lines) lines a w ≤ most_tips * most_pairs

-- the outside table of some lines in the making, and with it the tips of the set s at which a chain has ended with K pairs
pub record Followed (m q s K : ℕ) (is_open : ℕ → ℕ → ℕ → Bool) (D : ℕ → ℕ → ℕ) (rest tab : List ℕ) (kept w a : ℕ) : Type 0 where
  pub table : Outside m is_open D rest tab w a
  pub right : (t : ℕ) → T (has kept t) → T (has s t) × Ends is_open m D rest q K t
  pub wider : (b v i : ℕ) → w < v → b + v ≤ m → i < v → Opened is_open m D rest b v → T (has s (b + i))
      → K ≤ ended is_open m D rest q b v i → T (has kept (b + i))
  pub row : (b i : ℕ) → b < a → b + w ≤ m → i < w → Opened is_open m D rest b w → T (has s (b + i))
      → K ≤ ended is_open m D rest q b w i → T (has kept (b + i))
