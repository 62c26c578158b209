-- The choice of a tip among those at which a count is largest: the tip on the head, or else the lowest.
use Rattle.std.specs.Prelude.{ℕ, ◌-◌, Bool, false, cond, ◌&&◌, ltb, leb, eqb}
use Rattle.model.specs.Count.{largest, lowest_at}

-- the tip that is on the head at the start, or none
pub data Mounted : Type 0 where
  bare : Mounted
  tip : ℕ → Mounted

-- of the numbers below m at which f is largest: the mounted tip if it is among them, else the lowest; 0 for m = 0
unfoldable pub choice : Mounted → (ℕ → ℕ) → ℕ → ℕ
choice bare f m = lowest_at f m
choice (tip t) f m = cond (ltb t m && eqb (f t) (largest f m)) t (lowest_at f m)

-- the mounted tip counted from tip a; none where it is below a
unfoldable pub from : ℕ → Mounted → Mounted
from a bare = bare
from a (tip t) = cond (leb a t) (tip (t - a)) bare

-- tip t is on the head
unfoldable pub is_on : Mounted → ℕ → Bool
is_on bare t = false
is_on (tip u) t = eqb u t
