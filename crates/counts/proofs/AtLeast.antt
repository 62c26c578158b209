-- The tips whose count is at least a number: its binary digits are compared with those of the counts from the lowest up.
use Prim.Native.Nat.{ℕ, zero, suc, ◌+◌, ◌*◌, ◌-◌, ◌/◌, ◌%◌, ◌^◌, ◌≤◌, ◌<◌}
use native.Mathlib.Omega.{arith}
use native.Mathlib.Nat.{pow-suc}
use native.Mathlib.Numerals.{add-one}
use mathlib.Core.Path.{◌≡◌, refl, ap, sym, ◌∙◌}
use mathlib.Core.Logic.{◌↔◌}
use mathlib.Core.Bool.{true, cond}
use mathlib.Core.List.{List}
use lib.Bits.{bit_and, bit_or}
use lib.Dec.{eqb, ltb, leb, leb→le, le→leb, lt→ltb}
use lib.ListN.{length, get_or, drop, drop_of_length-le}
use Rattle.model.specs.Plan.{has}
use Rattle.model.specs.CommonTip.{set_of}
use Rattle.model.proofs.Tests.{same_test, and_in}
use Rattle.model.proofs.Sets.{set_of_cong, has-set_of}
use Rattle.counts.specs.Counts.{plane_count, digit, count_at, compared}
use Rattle.counts.proofs.Digits.{and_digit, or_digit, digit_le, has-one-digit, one-digit-has}
use Rattle.counts.proofs.Read.{set_of-all, and_set_of, count_at-drop}

-- one digit p more below the count c, one digit more below the number n / 2
compare_step : (n e p t c : ℕ) → (n + 1 ≤ digit p t + 2 * c + digit e t) ↔ (n / 2 + 1 ≤ c + digit (compared n e p) t)
unfolding compared
compare_step n e p t c = by (n % 2) refl
  where
    by : (b : ℕ) → n % 2 ≡ b → (n + 1 ≤ digit p t + 2 * c + digit e t) ↔ (n / 2 + 1 ≤ c + digit (cond (eqb b 1) (bit_and e p) (bit_or e p)) t)
    by zero q =
        let d = or_digit e p t in
        let f = digit_le e t in
        let g = digit_le p t in
        (λ h. omega arith, λ h. omega arith)
    by (suc zero) q =
        let d = and_digit e p t in
        let f = digit_le e t in
        let g = digit_le p t in
        (λ h. omega arith, λ h. omega arith)
    by (suc (suc b)) q = absurd (omega arith)

-- the digits below plane j are compared: enough has the tips whose digits there make at least the number's; left has the number's other digits
pub record Compared (planes : List ℕ) (m least j enough left : ℕ) : Type 0 where
  pub within : j ≤ plane_count
  pub small : left < 2 ^ (plane_count - j)
  pub same : (t : ℕ) → t < m → (left + 1 ≤ count_at (drop j planes) t + digit enough t) ↔ (least ≤ count_at planes t)

all-digit : (m t : ℕ) → t < m → digit (2 ^ m - 1) t ≡ 1
all-digit m t l = has-one-digit (2 ^ m - 1) t (rw (← (set_of-all m), has-set_of (λ _. true) m t) (and_in (ltb t m) true (lt→ltb t m l) tt))

module _ (planes : List ℕ) (m least : ℕ) (size : length planes ≡ plane_count) where
  pub compare_start : least < 2 ^ plane_count → Compared planes m least 0 (2 ^ m - 1) least
  compare_start few = record {
    within = omega arith;
    small = few;
    same = λ t l. let d = all-digit m t l in (λ h. omega arith, λ h. omega arith);
  }

  pub compare_more : {j enough left : ℕ} → j < plane_count → Compared planes m least j enough left
      → Compared planes m least (j + 1) (compared left enough (get_or planes j 0)) (left / 2)
  compare_more {j} {enough} {left} h c = record {
    within = omega arith;
    small =
        let e : plane_count - j ≡ suc (plane_count - (j + 1)) = omega arith in
        let d = rw (e, pow-suc) at c.small in
        omega arith;
    same = λ t l.
        let p = get_or planes j 0 in
        let (to, from) = compare_step left enough p t (count_at (drop (suc j) planes) t) in
        let d = count_at-drop planes j t (omega (arith, size)) in
        rw (add-one j) (
          λ x. (c.same t l).0 (rw d (from x)),
          λ y. to (rw d at ((c.same t l).1 y)),
        );
  }

  pub compare_end : {enough left : ℕ} → Compared planes m least plane_count enough left
      → bit_and (2 ^ m - 1) enough ≡ set_of (λ t. leb least (count_at planes t)) m
  unfolding count_at
  compare_end {enough} {left} c =
      let none = drop_of_length-le planes {i = plane_count} (omega arith) in
      let z : left ≡ 0 = omega (arith, c.small) in
      ap (λ s. bit_and s enough) (sym (set_of-all m)) ∙ and_set_of (λ t. true) m enough
      ∙ set_of_cong (λ t. has enough t) (λ t. leb least (count_at planes t)) m (λ t l.
      let (to, from) = rw (none, z) at (c.same t l) in
      same_test (has enough t) (leb least (count_at planes t))
      (λ y. le→leb least (count_at planes t) (to (omega (arith, has-one-digit enough t y))))
      (λ y. let d = from (leb→le least (count_at planes t) y) in one-digit-has enough t (omega (arith, digit_le enough t))))
