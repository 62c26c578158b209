-- The lowest part of a set, from its two words.
use Prim.Native.Nat.{ℕ, ◌+◌, ◌-◌, ◌^◌, ◌≤◌, ◌<◌}
use native.Mathlib.Omega.{arith}
use native.Mathlib.Nat.{le_refl}
use mathlib.Core.Path.{◌≡◌}
use mathlib.Core.Logic.{⊎_elim}
use lib.Dec.{T}
use borrow.Author.Tests.{lt-ltb, le-ltb}
use Rattle.model.specs.Plan.{has, Domain}
use Rattle.model.specs.Interval.{low}
use Rattle.model.proofs.Tests.{le_or_lt}
use Rattle.model.proofs.Sets.{has-below, has_some}
use Rattle.model.proofs.Run.{low_le, low-tip}
use Rattle.flat_order.specs.declared.sets.PartSet.{PartSet}
use Rattle.flat_order.specs.Sets.{has_part, IsLowest}

-- the lowest bit of a word that is not 0
lowest-bit : (w : ℕ) → w < 2 ^ 64 → 0 < w → T (has w (low w)) × (low w < 64)
lowest-bit w b p =
    let d : Domain 64 w = record { some = p; below = b } in
    let h = low-tip {m = 64} {s = w} (le_refl 64) d in
    (h, has-below 64 w (low w) b h)

pub low_below : (w : ℕ) → w < 2 ^ 64 → 0 < w → low w < 64
low_below w b p = (lowest-bit w b p).1

module _ (s : PartSet) where
  -- a part below 64 is one of the low word, any other one of the high word
  pub in_low : (x : ℕ) → x < 64 → has_part s x ≡ has s.low x
  unfolding has_part
  in_low x l = rw (lt-ltb x 64 l)

  pub in_high : (x : ℕ) → 64 ≤ x → has_part s x ≡ has s.high (x - 64)
  unfolding has_part
  in_high x l = rw (le-ltb x 64 l)

  pub lowest-low : s.low < 2 ^ 64 → 0 < s.low → (r : ℕ) → r ≡ low s.low → IsLowest s r
  lowest-low b p r e =
      let f = lowest-bit s.low b p in
      record {
        found = λ _. rw (e, in_low (low s.low) f.1) f.0;
        least = λ x h. ⊎_elim (λ l. omega (arith, e, f.1)) (λ l. omega (arith, e, low_le s.low x (rw (in_low x l) at h))) (le_or_lt 64 x);
      }

  -- where the low word is 0
  module _ (z : s.low ≡ 0) where
    none-low : (x : ℕ) → T (has_part s x) → x < 64 → ⊥
    none-low x h l = omega (arith, z, has_some s.low x (rw (in_low x l) at h))

    pub lowest-none : s.high ≡ 0 → (x : ℕ) → T (has_part s x) → ⊥
    lowest-none y x h =
        ⊎_elim (λ l. omega (arith, y, has_some s.high (x - 64) (rw (in_high x l) at h))) (λ l. none-low x h l) (le_or_lt 64 x)

    pub lowest-high : s.high < 2 ^ 64 → 0 < s.high → (r : ℕ) → r ≡ 64 + low s.high → IsLowest s r
    lowest-high b p r e =
        let f = lowest-bit s.high b p in
        let k : 64 ≤ r = omega (arith, e) in
        let y : r - 64 ≡ low s.high = omega (arith, e) in
        record {
          found = λ _. rw (in_high r k, y) f.0;
          least = λ x h. ⊎_elim (λ l. omega (arith, e, low_le s.high (x - 64) (rw (in_high x l) at h))) (λ l. absurd (none-low x h l))
              (le_or_lt 64 x);
        }
