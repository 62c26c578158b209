-- A board renumbered: each tip that passes a test, as the named tips do, is replaced by its rank, the number of such tips below it.
use Rattle.std.specs.Prelude.{ℕ, zero, suc, ◌+◌, ◌-◌, Bool, cond, ◌&&◌, List, [], ◌∷◌, map, T, eqb}
use Rattle.std.specs.Int.Bits.{bit_or}
use Rattle.model.specs.Plan.{has, Domain}
use Rattle.model.specs.CommonTip.{set_of}
use Rattle.model.specs.Choice.{Mounted, bare, tip}

-- the set of the named tips: the union of the lines' sets
unfoldable pub names : List ℕ → ℕ
names [] = 0
names (s ∷ lines) = bit_or s (names lines)

-- how many tips below t are ok
unfoldable pub rank : (ℕ → Bool) → ℕ → ℕ
rank ok zero = 0
rank ok (suc t) = rank ok t + cond (ok t) 1 0

-- ---- for proofs and leaf contracts: no call's contract speaks of these

-- the tip below m that is ok and has rank j; 0 where there is none
unfoldable pub tip_at : (ℕ → Bool) → ℕ → ℕ → ℕ
tip_at ok zero j = 0
tip_at ok (suc m) j = cond (ok m && eqb (rank ok m) j) m (tip_at ok m j)

-- the set of the ranks of the tips of s, which are ok and below m
unfoldable pub ranks : (ℕ → Bool) → ℕ → ℕ → ℕ
ranks ok m s = set_of (λ j. has s (tip_at ok m j)) (rank ok m)

-- the lines renumbered
unfoldable pub renumbered : (ℕ → Bool) → ℕ → List ℕ → List ℕ
renumbered ok m lines = map (ranks ok m) lines

-- the rank of the mounted tip; none where it is not ok
unfoldable pub rank_on : (ℕ → Bool) → Mounted → Mounted
rank_on ok bare = bare
rank_on ok (tip t) = cond (ok t) (tip (rank ok t)) bare

-- the width of an interval renumbered: how many of its tips are ok
unfoldable pub width : (ℕ → Bool) → ℕ → ℕ → ℕ
width ok a w = rank ok (a + w) - rank ok a

-- a line whose tips are in the rack and ok
pub record Fits (ok : ℕ → Bool) (m s : ℕ) : Type 0 where
  pub domain : Domain m s
  pub own : (c : ℕ) → T (has s c) → T (ok c)
