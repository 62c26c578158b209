-- How large the numbers of a board are.
use Prim.Native.Nat.{ℕ, zero, suc, ◌+◌, ◌*◌, ◌-◌, ◌≤◌}
use native.Mathlib.Omega.{arith}
use native.Mathlib.Nat.{le_trans}
use mathlib.Core.Logic.{◌↔◌}
use mathlib.Core.List.{List}
use lib.Dec.{T, leb, leb→le, le→leb}
use lib.ListN.{length}
use Rattle.model.specs.Plan.{rack_ok, pairs, choose2}
use Rattle.model.specs.Interval.{inside, C}
use Rattle.model.specs.Limits.{most_tips, most_placements, most_pairs}
use Rattle.model.proofs.Tests.{and_left, and_right, and_in}
use Rattle.model.proofs.Pairs.{choose2_mono, pairs_le}
use Rattle.model.proofs.Largest.{largest_le}
use Rattle.model.proofs.AllTips.{inside-length}
use Rattle.model.proofs.Best.{C_zero, C-split}

-- the test of a rack passes exactly in its limits
pub rack_iff : (m : ℕ) → T (rack_ok m) ↔ ((1 ≤ m) × (m ≤ most_tips))
unfolding rack_ok
rack_iff m = (
  λ t. (leb→le 1 m (and_left (leb 1 m) (leb m 64) t), leb→le m 64 (and_right (leb 1 m) (leb m 64) t)),
  λ (l, h). and_in (leb 1 m) (leb m 64) (le→leb 1 m l) (le→leb m 64 h),
)

-- the pairs of a count of placements
pub choose2_few : (p : ℕ) → p ≤ most_placements → choose2 p ≤ most_pairs
unfolding choose2
choose2_few p h = choose2_mono h

pub pairs_few : (plan : List ℕ) → length plan ≤ most_placements → pairs plan ≤ most_pairs
pairs_few plan h = le_trans (pairs_le plan) (choose2_few (length plan) h)

module _ (lines : List ℕ) (few : length lines ≤ most_placements) where
  pub inside_few : (a w c : ℕ) → inside lines a w c ≤ most_placements
  inside_few a w c = le_trans (inside-length lines a w c) few

  C-by-width : (k a w : ℕ) → w ≤ k → C lines a w ≤ w * most_pairs
  C-by-width zero a zero h = omega (arith, C_zero lines a)
  C-by-width zero a (suc w) h = absurd (omega arith)
  C-by-width (suc k) a w h =
      rw (C-split lines a w) (largest_le _ w (w * most_pairs) (λ i l.
      omega (
        arith,
        choose2_few (inside lines a w (a + i)) (inside_few a w (a + i)),
        C-by-width k a i (omega arith),
        C-by-width k (a + i + 1) (w - (i + 1)) (omega arith),
      )))

  -- a bound of C that is easily proved, and small enough for sums of it
  pub C_few : (a w : ℕ) → w ≤ most_tips → C lines a w ≤ most_tips * most_pairs
  C_few a w h = omega (arith, C-by-width w a w (omega arith))
