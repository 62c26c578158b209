-- The tips that pass a test and their ranks, in lists.
-- For proofs and leaf contracts: no call's contract speaks of these.
use Rattle.std.specs.Prelude.{ℕ, zero, suc, ◌+◌, ◌-◌, ◌^◌, ◌≤◌, ◌<◌, ◌≡◌, Bool, cond, List, T, length, get_or}
use Rattle.std.specs.Int.Bits.{bit_or}
use Rattle.model.specs.Limits.{most_tips}
use Rattle.model.specs.Plan.{has, Domain}
use Rattle.model.specs.Interval.{low, high}
use Rattle.model.specs.Renumber.{rank, tip_at}

-- the place of each tip below m holds its rank
pub record Ranks (ok : ℕ → Bool) (m : ℕ) (list : List ℕ) : Type 0 where
  pub size : length list ≡ most_tips
  pub places : (t : ℕ) → t < m → get_or list t 0 ≡ rank ok t

-- the place of each rank below that of m holds its tip
pub record Named (ok : ℕ → Bool) (m : ℕ) (list : List ℕ) : Type 0 where
  pub size : length list ≡ most_tips
  pub places : (j : ℕ) → j < rank ok m → get_or list j 0 ≡ tip_at ok m j

-- the numbers from that at the place of the lowest tip of s to that at the place of its highest, as a set
unfoldable pub run_by : List ℕ → ℕ → ℕ
run_by list s = 2 ^ (get_or list (high s) 0 + 1) - 2 ^ get_or list (low s) 0

-- there is a place for each tip of s, and the numbers at the places of its lowest and its highest tip are in order, and are tips
pub record Ranked (list : List ℕ) (s : ℕ) : Type 0 where
  pub domain : Domain most_tips s
  pub size : length list ≡ most_tips
  pub order : get_or list (low s) 0 ≤ get_or list (high s) 0
  pub below : get_or list (high s) 0 < most_tips

-- the place of each tip of the set holds its rank
pub record RanksOf (set : ℕ) (list : List ℕ) : Type 0 where
  pub size : length list ≡ most_tips
  pub places : (t : ℕ) → T (has set t) → get_or list t 0 ≡ rank (has set) t

-- the union of the numbers at the places below n that the set s has
unfoldable pub joined_at : List ℕ → ℕ → ℕ → ℕ
joined_at list s zero = 0
joined_at list s (suc n) = bit_or (joined_at list s n) (cond (has s n) (2 ^ get_or list n 0) 0)

-- and so all numbers, as a set
unfoldable pub named_by : List ℕ → ℕ → ℕ
named_by list s = joined_at list s most_tips

-- there is a place for each tip, and the numbers up to the highest place that s has are tips
pub record Nameable (list : List ℕ) (s : ℕ) : Type 0 where
  pub domain : Domain most_tips s
  pub size : length list ≡ most_tips
  pub below : (j : ℕ) → j ≤ high s → get_or list j 0 < most_tips
