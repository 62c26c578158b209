-- Counts less other counts, plane by plane with a borrow.
use Prim.Native.Nat.{ℕ, zero, suc, ◌+◌, ◌*◌, ◌^◌, ◌≤◌, ◌<◌}
use native.Mathlib.Omega.{arith}
use native.Mathlib.Nat.{pow-suc}
use native.Mathlib.Numerals.{add-one}
use mathlib.Core.Path.{◌≡◌, ap}
use mathlib.Core.List.{List, [], ◌∷◌}
use lib.Bits.{bit_and, bit_or, bit_xor}
use lib.ListN.{length, get_or, take, set}
use lib.Seq.{take_all}
use Rattle.model.specs.Plan.{occ}
use Rattle.counts.specs.Counts.{plane_count, digit, count_at, Counts}
use Rattle.counts.specs.Difference.{Subtractable, Subtracted}
use Rattle.counts.proofs.Digits.{digit_le, half_subtractor, or_digit, empty_digit}
use Rattle.counts.proofs.Planes.{count_at_lt, count_at-set}

-- a digit less two others, of which two borrows are never both 1
abbrev pub borrow : ℕ → ℕ → ℕ → ℕ
borrow a b c = bit_or (bit_and (bit_xor a b) b) (bit_and (bit_xor (bit_xor a b) c) c)

full_subtractor : (a b c t : ℕ) → digit (bit_xor (bit_xor a b) c) t + digit b t + digit c t ≡ digit a t + 2 * digit (borrow a b c) t
full_subtractor a b c t =
    let either = or_digit (bit_and (bit_xor a b) b) (bit_and (bit_xor (bit_xor a b) c) c) t in
    let first = half_subtractor a b t in
    let second = half_subtractor (bit_xor a b) c t in
    omega (arith, either, first, second, digit_le a t, digit_le b t, digit_le c t, digit_le (bit_xor a b) t, digit_le (bit_xor (bit_xor a b) c) t)

-- one plane more
count_at-more : (planes : List ℕ) (j t : ℕ) → j < length planes
    → count_at (take (suc j) planes) t ≡ count_at (take j planes) t + 2 ^ j * digit (get_or planes j 0) t
unfolding count_at
count_at-more [] j t h = absurd (omega arith)
count_at-more (p ∷ planes) zero t h = omega arith
count_at-more (p ∷ planes) (suc j) t h = rw pow-suc (omega (arith, count_at-more planes j t (omega arith)))

-- the planes below j are done, and the borrow is taken off the next
pub record Lowered (gone old : List ℕ) (j borrowed : ℕ) (planes : List ℕ) : Type 0 where
  pub within : j ≤ plane_count
  pub size : length planes ≡ plane_count
  pub sum : (t : ℕ) → count_at planes t + count_at (take j gone) t ≡ count_at old t + 2 ^ j * digit borrowed t

module _ {gone old : List ℕ} (s : Subtractable gone old) where
  pub lowered_none : Lowered gone old 0 0 old
  unfolding count_at
  lowered_none = record { within = omega arith; size = s.size; sum = λ t. omega (arith, empty_digit t) }

  module _ {j c : ℕ} {planes : List ℕ} (l : Lowered gone old j c planes) where
    pub lowered_more : j < plane_count
        → let a = get_or planes j 0 in
        let b = get_or gone j 0 in
        length (set planes j (bit_xor (bit_xor a b) c)) ≡ plane_count →
        Lowered gone old (j + 1) (borrow a b c) (set planes j (bit_xor (bit_xor a b) c))
    lowered_more h size = record {
      within = omega arith;
      size = size;
      sum = λ t.
          let a = get_or planes j 0 in
          let b = get_or gone j 0 in
          let stored = count_at-set planes j (bit_xor (bit_xor a b) c) t (omega (arith, l.size)) in
          let one = ap (λ x. 2 ^ j * x) (full_subtractor a b c t) in
          rw (add-one, pow-suc) (omega (arith, l.sum t, stored, one, count_at-more gone j t (omega (arith, s.gone_size))));
    }

    pub lowered_all : plane_count ≤ j → Subtracted gone old planes
    lowered_all h =
        let e : j ≡ plane_count = omega (arith, l.within) in
        let whole = take_all plane_count gone (omega (arith, s.gone_size)) in
        record {
          size = l.size;
          sum = λ t.
              let sum = rw (e, whole) at (l.sum t) in
              omega (arith, s.some t, rw l.size at (count_at_lt planes t));
        }

-- a part of the lines is counted by itself
module _ {lines part planes gone : List ℕ} (c : Counts lines planes) (g : Counts part gone)
    (rest : List ℕ) (e : (t : ℕ) → occ lines t ≡ occ rest t + occ part t) where
  pub part_some : Subtractable gone planes
  part_some = record { gone_size = g.size; size = c.size; some = λ t. omega (arith, c.counted t, g.counted t, e t) }

  -- without it the rest is
  pub rest-counted : {planes' : List ℕ} → Subtracted gone planes planes' → Counts rest planes'
  rest-counted s = record { size = s.size; counted = λ t. omega (arith, s.sum t, c.counted t, g.counted t, e t) }
