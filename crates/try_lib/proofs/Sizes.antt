-- A number of 32 bits with a sign, widened to 64, and its size.
use Rattle.std.proofs.Common.{◌≡◌, ℕ, true, false, T, ltb, ℤ, pos, negsuc, ◌-ℤ◌, nat_abs, subst, arith, w32, w64, Fits, SFits, to_z, of_z, ltb-true}
use lib.Signed.{lt_z, non_neg}
use mir.ValLaws.{to_z-of_z}

pub wide : (z : ℤ) → SFits w32 z → SFits w64 z
wide z f = record { sfits = omega (arith, f.sfits) }

pub widened : (z : ℤ) → SFits w32 z → to_z w64 (of_z w64 (to_z w32 (of_z w32 z))) ≡ z
widened z f = rw (to_z-of_z w32 z f) (to_z-of_z w64 z (wide z f))

not_below_zero : (n : ℕ) → ltb n 0 ≡ true → ⊥
not_below_zero n t = omega (arith, ltb-true n 0 t)

pub neg_fits : (z : ℤ) → SFits w32 z → lt_z z (pos 0) ≡ true → SFits w64 (pos 0 -ℤ z)
neg_fits (pos n) f t = absurd (not_below_zero n t)
neg_fits (negsuc n) f t = record { sfits = omega (arith, f.sfits) }

pub neg_size : (z : ℤ) → SFits w32 z → lt_z z (pos 0) ≡ true → T (non_neg (pos 0 -ℤ z)) × Fits w64 (nat_abs (pos 0 -ℤ z))
neg_size (pos n) f t = absurd (not_below_zero n t)
neg_size (negsuc n) f t = (tt, record { fits = omega (arith, f.sfits) })

pub pos_size : (z : ℤ) → SFits w32 z → lt_z z (pos 0) ≡ false → T (non_neg z) × Fits w64 (nat_abs z)
pos_size (pos n) f t = (tt, record { fits = omega (arith, f.sfits) })
pos_size (negsuc n) f t = absurd (subst T t tt)
