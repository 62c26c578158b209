-- Sets with their bytes the other way round: which digit of a set is which, and what is counted of such sets.
use Prim.Native.Nat.{ℕ, zero, suc, ◌+◌, ◌*◌, ◌-◌, ◌/◌, ◌%◌, ◌^◌, ◌≤◌, ◌<◌}
use native.Mathlib.Omega.{arith}
use native.Mathlib.Nat.{div-eq_of_lt, lt_of_lt_of_le, lt_of_le_of_lt}
use mathlib.Core.Path.{◌≡◌, refl, ap, ap₂, sym, ◌∙◌}
use mathlib.Core.Logic.{⊎_elim}
use mathlib.Core.Bool.{cond, ◌&&◌}
use lib.Bits.{bit_and, and_le_l}
use mathlib.Core.List.{List, map}
use lib.Dec.{ltb, eqb}
use lib.ListN.{length}
use lib.Pow.{shr-shr, pow_mono}
use borrow.Author.Tests.{lt-ltb, le-ltb}
use Rattle.std.specs.Int.{w64, swap_bytes}
use Rattle.model.specs.Count.{All, none, more, list_of, count}
use Rattle.model.specs.Plan.{has, occ}
use Rattle.model.proofs.Tests.{le_or_lt}
use Rattle.model.proofs.Sets.{set_same, has_and}
use Rattle.counts.specs.Counts.{plane_count, digit, count_at, Counts}
use Rattle.counts.specs.Swapped.{facing}

-- ---- which digit is which

-- a digit of a number's byte k is one of the number's
low_digit : (z b : ℕ) → b < 8 → z % 256 / 2 ^ b % 2 ≡ z / 2 ^ b % 2
low_digit z zero h = omega arith
low_digit z (suc zero) h = omega arith
low_digit z (suc (suc zero)) h = omega arith
low_digit z (suc (suc (suc zero))) h = omega arith
low_digit z (suc (suc (suc (suc zero)))) h = omega arith
low_digit z (suc (suc (suc (suc (suc zero))))) h = omega arith
low_digit z (suc (suc (suc (suc (suc (suc zero)))))) h = omega arith
low_digit z (suc (suc (suc (suc (suc (suc (suc zero))))))) h = omega arith
low_digit z (suc (suc (suc (suc (suc (suc (suc (suc b)))))))) h = absurd (omega arith)

byte_digit : (y k b : ℕ) → b < 8 → digit y (8 * k + b) ≡ y / 2 ^ (8 * k) % 256 / 2 ^ b % 2
unfolding digit
byte_digit y k b h = ap (λ x. x % 2) (sym (shr-shr y (8 * k) b)) ∙ sym (low_digit (y / 2 ^ (8 * k)) b h)

-- byte a of the swapped number is byte 7 - a of the number
swapped_byte : (s a : ℕ) → a < 8 → swap_bytes w64 s / 2 ^ (8 * a) % 256 ≡ s / 2 ^ (8 * (7 - a)) % 256
swapped_byte s zero h = omega arith
swapped_byte s (suc zero) h = omega arith
swapped_byte s (suc (suc zero)) h = omega arith
swapped_byte s (suc (suc (suc zero))) h = omega arith
swapped_byte s (suc (suc (suc (suc zero)))) h = omega arith
swapped_byte s (suc (suc (suc (suc (suc zero))))) h = omega arith
swapped_byte s (suc (suc (suc (suc (suc (suc zero)))))) h = omega arith
swapped_byte s (suc (suc (suc (suc (suc (suc (suc zero))))))) h = omega arith
swapped_byte s (suc (suc (suc (suc (suc (suc (suc (suc a)))))))) h = absurd (omega arith)

pub swapped_lt : (s : ℕ) → swap_bytes w64 s < 2 ^ 64
swapped_lt s = omega arith

high_digit : (s t : ℕ) → s < 2 ^ 64 → 64 ≤ t → digit s t ≡ 0
unfolding digit
high_digit s t l h = ap (λ x. x % 2) (div-eq_of_lt (lt_of_lt_of_le l (pow_mono h)))

-- THE DIGITS OF A SWAPPED NUMBER: each is the facing digit of the number
pub swapped_digit : (s t : ℕ) → s < 2 ^ 64 → digit (swap_bytes w64 s) t ≡ digit s (facing t)
unfolding facing
swapped_digit s t l = ⊎_elim high low (le_or_lt 64 t)
  where
    high : 64 ≤ t → digit (swap_bytes w64 s) t ≡ digit s (cond (ltb t 64) (8 * (7 - t / 8) + t % 8) t)
    high h = rw (le-ltb t 64 h) (high_digit (swap_bytes w64 s) t (swapped_lt s) h ∙ sym (high_digit s t l h))

    low : t < 64 → digit (swap_bytes w64 s) t ≡ digit s (cond (ltb t 64) (8 * (7 - t / 8) + t % 8) t)
    low h =
        let few : t % 8 < 8 = omega arith in
        let parts : 8 * (t / 8) + t % 8 ≡ t = omega arith in
        rw (lt-ltb t 64 h) (
        ap (digit (swap_bytes w64 s)) (sym parts) ∙ byte_digit (swap_bytes w64 s) (t / 8) (t % 8) few
        ∙ ap (λ x. x / 2 ^ (t % 8) % 2) (swapped_byte s (t / 8) (omega arith)) ∙ sym (byte_digit s (7 - t / 8) (t % 8) few)
        )

-- the digit that faces the facing one is the digit itself
pub facing_back : (t : ℕ) → facing (facing t) ≡ t
unfolding facing
facing_back t = ⊎_elim high low (le_or_lt 64 t)
  where
    at : ℕ → ℕ
    at u = cond (ltb u 64) (8 * (7 - u / 8) + u % 8) u

    high : 64 ≤ t → at (at t) ≡ t
    high h = rw (le-ltb t 64 h, le-ltb t 64 h) refl

    low : t < 64 → at (at t) ≡ t
    low h =
        let there : 8 * (7 - t / 8) + t % 8 < 64 = omega arith in
        rw (lt-ltb t 64 h, lt-ltb (8 * (7 - t / 8) + t % 8) 64 there) (omega arith)

-- ---- the tips of swapped sets

pub has_swapped : (s t : ℕ) → s < 2 ^ 64 → has (swap_bytes w64 s) t ≡ has s (facing t)
unfolding has digit
has_swapped s t l = ap (λ d. eqb d 1) (swapped_digit s t l)

-- swapped twice a set is the same
pub swapped_back : (s : ℕ) → s < 2 ^ 64 → swap_bytes w64 (swap_bytes w64 s) ≡ s
swapped_back s l =
    set_same _ _ (λ t. has_swapped (swap_bytes w64 s) t (swapped_lt s) ∙ has_swapped s (facing t) l ∙ ap (has s) (facing_back t))

-- what two swapped sets share is what the sets share, swapped
pub swapped_and : (a b : ℕ) → a < 2 ^ 64 → b < 2 ^ 64 → bit_and (swap_bytes w64 a) (swap_bytes w64 b) ≡ swap_bytes w64 (bit_and a b)
swapped_and a b h g =
    let small = lt_of_le_of_lt (and_le_l a b) h in
    set_same _ _ (λ t.
    has_and (swap_bytes w64 a) (swap_bytes w64 b) t ∙ ap₂ (λ x y. x && y) (has_swapped a t h) (has_swapped b t g)
    ∙ sym (has_and a b (facing t)) ∙ sym (has_swapped (bit_and a b) t small))

-- ---- what is counted of them

pub occ-swapped : (f : ℕ → ℕ) (n t : ℕ) → ((k : ℕ) → k < n → f k < 2 ^ 64)
    → occ (list_of (λ k. swap_bytes w64 (f k)) n) t ≡ occ (list_of f n) (facing t)
unfolding occ count list_of
occ-swapped f zero t l = refl
occ-swapped f (suc n) t l =
    ap₂ (λ b c. cond b 1 0 + c) (has_swapped (f 0) t (l 0 (omega arith)))
    (occ-swapped (λ k. f (suc k)) n t (λ k h. l (suc k) (omega arith)))

pub count_at-swapped : {planes : List ℕ} (t : ℕ) → All (λ p. p < 2 ^ 64) planes
    → count_at (map (swap_bytes w64) planes) t ≡ count_at planes (facing t)
unfolding count_at
count_at-swapped t none = refl
count_at-swapped t (more {x = p} h hs) = ap₂ (λ d c. d + 2 * c) (swapped_digit p t h) (count_at-swapped t hs)

-- PLANES PUT BACK: those of swapped lines, each swapped, are those of the lines
pub put_back : {lines swapped old planes : List ℕ} → ((t : ℕ) → occ swapped t ≡ occ lines (facing t)) → Counts swapped old
    → length planes ≡ plane_count → ((t : ℕ) → count_at planes t ≡ count_at old (facing t)) → Counts lines planes
put_back {lines} same c n back = record {
  size = n;
  counted = λ t. back t ∙ c.counted (facing t) ∙ same (facing t) ∙ ap (occ lines) (facing_back t);
}
