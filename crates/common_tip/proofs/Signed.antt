-- Ranges of the signed sum and difference of small numbers.
use Prim.Native.Nat.{ℕ, zero, suc, ◌+◌, ◌-◌, ◌^◌, ◌<◌, ◌≤◌}
use mathlib.Core.Path.{◌≡◌, ◌∙◌}
use mathlib.Core.Bool.{Bool, true, false, cond}
use native.Mathlib.Omega.{arith}
use lib.Dec.{ltb}
use lib.IntN.{ℤ, pos, negsuc, sub_ℕ, ◌+ℤ◌, ◌-ℤ◌}
use lib.Signed.{mag}
use mir.Syntax.{w32}
use mir.Val.{SFits, to_z, of_z}
use mir.ValLaws.{to_z_pos, to_z-of_z}
use Rattle.model.specs.Limits.{most_placements}
use Rattle.common_tip.specs.Common.{margin_by}

mag_sub : (a b : ℕ) → mag (sub_ℕ a b) ≤ a + b
mag_sub a b = by (ltb a b)
  where
    by : (t : Bool) → mag (cond t (negsuc (b - suc a)) (pos (a - b))) ≤ a + b
    by true = omega arith
    by false = omega arith

mag_diff : (a b : ℕ) → mag (pos a -ℤ pos b) ≤ a + b
mag_diff a zero = omega arith
mag_diff a (suc b) = mag_sub a (suc b)

mag_sum : (z : ℤ) (k : ℕ) → mag (z +ℤ pos k) ≤ mag z + k + 1
mag_sum (pos a) k = omega arith
mag_sum (negsuc a) k = omega (arith, mag_sub k (suc a))

module _ (a b k : ℕ) (ha : a ≤ most_placements) (hb : b ≤ most_placements) (hk : k < 2 ^ 16) where
  sub_fits : SFits w32 (to_z w32 a -ℤ to_z w32 b)
  sub_fits = rw (to_z_pos w32 a (omega arith), to_z_pos w32 b (omega arith)) (record { sfits = omega (arith, mag_diff a b) })

  diff_is : to_z w32 (of_z w32 (to_z w32 a -ℤ to_z w32 b)) ≡ pos a -ℤ pos b
  diff_is = to_z-of_z w32 (to_z w32 a -ℤ to_z w32 b) sub_fits ∙ rw (to_z_pos w32 a (omega arith), to_z_pos w32 b (omega arith))

  -- the margin as the code adds it up, in 32 bits with a sign
  pub margin-is : to_z w32 (of_z w32 (to_z w32 (of_z w32 (to_z w32 a -ℤ to_z w32 b)) +ℤ to_z w32 (of_z w32 (pos k)))) ≡ (pos a -ℤ pos b) +ℤ pos k
  margin-is =
      rw (diff_is, to_z-of_z w32 (pos k) (record { sfits = omega arith }))
      (to_z-of_z w32 ((pos a -ℤ pos b) +ℤ pos k) (record { sfits = omega (arith, mag_sum (pos a -ℤ pos b) k, mag_diff a b) }))

  -- THE RANGE OF THE MARGIN: it fits 32 bits with a sign
  pub margin-fits : SFits w32 (margin_by a b k)
  unfolding margin_by
  margin-fits = record { sfits = omega (arith, mag_sum (pos a -ℤ pos b) k, mag_diff a b) }

-- zero fits 32 bits with a sign
pub zero_fits : SFits w32 (pos 0)
zero_fits = record { sfits = omega arith }
