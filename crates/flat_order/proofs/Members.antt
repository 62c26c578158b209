-- Laws of sets of parts: which parts are in one part's set, in two sets joined, in one without the other; and when two have no part in common.
use Prim.Native.Nat.{ℕ, zero, suc, ◌+◌, ◌*◌, ◌-◌, ◌/◌, ◌%◌, ◌^◌, ◌≤◌, ◌<◌}
use native.Mathlib.Omega.{arith}
use native.Mathlib.Nat.{mod-eq_of_lt, one-mul}
use mathlib.Core.Path.{◌≡◌, refl, ap, sym, ◌∙◌}
use mathlib.Core.Logic.{⊎_elim}
use mathlib.Core.Bool.{Bool, true, false, not, cond, ◌&&◌, ◌||◌}
use lib.Dec.{T, eqb, eqb→eq, eqb_refl, not_T, T_not}
use lib.Bits.{bit_and, bit_xor, differ, xor_step, xor_shr}
use lib.Pow.{pow-lt}
use borrow.Author.Tests.{lt-ltb, le-ltb}
use Rattle.model.specs.Plan.{has}
use Rattle.model.proofs.Tests.{le_or_lt, true_T, false_T, same_test, test, and_left, and_right, and_in}
use Rattle.model.proofs.Sets.{has-digit, digit-has, has-suc, has_some, has_and, has_or, highest}
use Rattle.flat_order.specs.declared.sets.PartSet.{PartSet}
use Rattle.flat_order.specs.Sets.{has_part, single, joined, removed, met, apart}

-- a shift does not lose the bit
pub shifted : (m : ℕ) → m < 64 → 1 * 2 ^ m % 2 ^ 64 ≡ 2 ^ m
shifted m h = rw one-mul (mod-eq_of_lt (pow-lt {j = 64} h))

-- ---- one word

abbrev bit : Bool → ℕ
bit b = cond b 1 0

digit : (s t : ℕ) → s / 2 ^ t % 2 ≡ bit (has s t)
digit s t = ⊎_elim (λ h. rw (true_T (has s t) h) (has-digit s t h)) (λ h. rw (false_T (has s t) h) (zero_digit h)) (test (has s t))
  where
    zero_digit : T (not (has s t)) → s / 2 ^ t % 2 ≡ 0
    zero_digit h = ⊎_elim (λ l. omega arith) (λ l. absurd (T_not (has s t) h (digit-has s t (omega arith)))) (le_or_lt (s / 2 ^ t % 2) 0)

by_bit : (s t : ℕ) (b : Bool) → s / 2 ^ t % 2 ≡ bit b → has s t ≡ b
by_bit s t b e = same (has s t) b (sym (digit s t) ∙ e)
  where
    same : (x y : Bool) → bit x ≡ bit y → x ≡ y
    same true true e = refl
    same true false e = absurd (omega arith)
    same false true e = absurd (omega arith)
    same false false e = refl

-- a without what it has in common with b
has_less : (a b t : ℕ) → has (bit_xor a (bit_and a b)) t ≡ (has a t && not (has b t))
has_less a b t = by_bit (bit_xor a (bit_and a b)) t (has a t && not (has b t))
    (e ∙ rw (digit a t, digit (bit_and a b) t, has_and a b t) (less (has a t) (has b t)))
  where
    e : bit_xor a (bit_and a b) / 2 ^ t % 2 ≡ differ (a / 2 ^ t % 2) (bit_and a b / 2 ^ t % 2)
    e =
        let m = a / 2 ^ t in
        let n = bit_and a b / 2 ^ t in
        ap (λ x. x % 2) (xor_shr a (bit_and a b) t ∙ xor_step m n)
        ∙ low_digit (bit_xor (m / 2) (n / 2)) (differ (m % 2) (n % 2)) (small (m % 2) (n % 2) (omega arith) (omega arith))
      where
        low_digit : (h d : ℕ) → d < 2 → (h * 2 + d) % 2 ≡ d
        low_digit h d l = omega arith

        small : (x y : ℕ) → x < 2 → y < 2 → differ x y < 2
        small zero y k l = l
        small (suc zero) zero k l = k
        small (suc zero) (suc y) k l = omega arith
        small (suc (suc x)) y k l = absurd (omega arith)

    less : (x y : Bool) → differ (bit x) (bit (x && y)) ≡ bit (x && not y)
    less true true = refl
    less true false = refl
    less false y = refl

eqb_other : (a b : ℕ) → (a ≡ b → ⊥) → eqb a b ≡ false
eqb_other a b n = false_T (eqb a b) (not_T (eqb a b) (λ u. n (eqb→eq a b u)))

pub has-none : (t : ℕ) → has 0 t ≡ false
has-none t = false_T (has 0 t) (not_T (has 0 t) (λ h. omega (arith, has_some 0 t h)))

has_one : (k t : ℕ) → has (2 ^ k) t ≡ eqb k t
has_one zero zero = by_bit 1 0 true (omega arith)
has_one zero (suc t) = has-suc 1 t ∙ has-none t ∙ sym (eqb_other 0 (suc t) (λ e. omega arith))
has_one (suc k) zero = by_bit (2 ^ suc k) 0 false (omega arith) ∙ sym (eqb_other (suc k) 0 (λ e. omega arith))
has_one (suc k) (suc t) =
    let e : 2 ^ suc k / 2 ≡ 2 ^ k = omega arith in
    has-suc (2 ^ suc k) t ∙ rw e (has_one k t) ∙ same
  where
    same : eqb k t ≡ eqb (suc k) (suc t)
    same = same_test (eqb k t) (eqb (suc k) (suc t)) (λ u. rw (eqb→eq k t u) (eqb_refl (suc t)))
        (λ u. let e : k ≡ t = omega (arith, eqb→eq (suc k) (suc t) u) in rw e (eqb_refl t))

-- ---- two words

-- a part of one part's set
pub has-single : (k x : ℕ) → has_part (single k) x ≡ eqb k x
unfolding has_part single
has-single k x =
    ⊎_elim
    (λ h. ⊎_elim (λ l. rw (le-ltb k 64 h, le-ltb x 64 l, has_one (k - 64) (x - 64)) (same k x h l))
    (λ l. rw (le-ltb k 64 h, lt-ltb x 64 l, has-none x) (sym (eqb_other k x (λ e. omega arith)))) (le_or_lt 64 x))
    (λ h. ⊎_elim (λ l. rw (lt-ltb k 64 h, le-ltb x 64 l, has-none (x - 64)) (sym (eqb_other k x (λ e. omega arith))))
    (λ l. rw (lt-ltb k 64 h, lt-ltb x 64 l, has_one k x)) (le_or_lt 64 x))
    (le_or_lt 64 k)
  where
    same : (a b : ℕ) → 64 ≤ a → 64 ≤ b → eqb (a - 64) (b - 64) ≡ eqb a b
    same a b h l =
        same_test (eqb (a - 64) (b - 64)) (eqb a b)
        (λ u. let e : a ≡ b = omega (arith, eqb→eq (a - 64) (b - 64) u) in rw e (eqb_refl b))
        (λ u. rw (eqb→eq a b u) (eqb_refl (b - 64)))

-- a part of two sets joined
pub has-joined : (s t : PartSet) (x : ℕ) → has_part (joined s t) x ≡ (has_part s x || has_part t x)
unfolding has_part joined
has-joined s t x = ⊎_elim (λ l. rw (le-ltb x 64 l) (has_or s.high t.high (x - 64))) (λ l. rw (lt-ltb x 64 l) (has_or s.low t.low x))
    (le_or_lt 64 x)

-- a part of both sets
pub has-met : (s t : PartSet) (x : ℕ) → has_part (met s t) x ≡ (has_part s x && has_part t x)
unfolding has_part met
has-met s t x = ⊎_elim (λ l. rw (le-ltb x 64 l) (has_and s.high t.high (x - 64))) (λ l. rw (lt-ltb x 64 l) (has_and s.low t.low x))
    (le_or_lt 64 x)

-- a part of s without t
pub has-removed : (s t : PartSet) (x : ℕ) → has_part (removed s t) x ≡ (has_part s x && not (has_part t x))
unfolding has_part removed
has-removed s t x = ⊎_elim (λ l. rw (le-ltb x 64 l) (has_less s.high t.high (x - 64)))
    (λ l. rw (lt-ltb x 64 l) (has_less s.low t.low x)) (le_or_lt 64 x)

pub some_or : {P : Type 0} (a b : Bool) → T (a || b) → (T a → P) → (T b → P) → P
some_or true b u f g = f tt
some_or false b u f g = g u

pub or_first : (a b : Bool) → T a → T (a || b)
or_first true b u = tt
or_first false b u = absurd u

pub or_second : (a b : Bool) → T b → T (a || b)
or_second true b u = tt
or_second false b u = u

-- two words with no bit in common
word_apart : (a b : ℕ) → bit_and a b < 2 ^ 64 → ((t : ℕ) → t < 64 → T (has a t) → T (has b t) → ⊥) → bit_and a b ≡ 0
word_apart a b l f = ⊎_elim (λ z. omega arith) (λ p.
    let (t, e, h, u) = highest 64 (bit_and a b) p l in
    let w = ap (λ z. z) (has_and a b t) in
    absurd (f t (omega arith) (and_left (has a t) (has b t) (rw (← w) h)) (and_right (has a t) (has b t) (rw (← w) h)))) (le_or_lt (bit_and a b) 0)

word_meets : (a b t : ℕ) → bit_and a b ≡ 0 → T (has a t) → T (has b t) → ⊥
word_meets a b t z h k =
    let w : T (has (bit_and a b) t) = rw (has_and a b t) (and_in (has a t) (has b t) h k) in
    omega (arith, has_some (bit_and a b) t w)

-- the test finds whether two sets have no part in common
pub apart_none : (s t : PartSet) → T (apart s t) → (x : ℕ) → T (has_part s x) → T (has_part t x) → ⊥
unfolding has_part apart
apart_none s t u x h k =
    let lows = eqb→eq (bit_and s.low t.low) 0 (and_left (eqb (bit_and s.low t.low) 0) (eqb (bit_and s.high t.high) 0) u) in
    let highs = eqb→eq (bit_and s.high t.high) 0 (and_right (eqb (bit_and s.low t.low) 0) (eqb (bit_and s.high t.high) 0) u) in
    ⊎_elim
    (λ l. let e = le-ltb x 64 l in word_meets s.high t.high (x - 64) highs (rw e at h) (rw e at k))
    (λ l. let e = lt-ltb x 64 l in word_meets s.low t.low x lows (rw e at h) (rw e at k))
    (le_or_lt 64 x)

pub apart_if : (s t : PartSet) → bit_and s.low t.low < 2 ^ 64 → bit_and s.high t.high < 2 ^ 64
    → ((x : ℕ) → x < 128 → T (has_part s x) → T (has_part t x) → ⊥) → T (apart s t)
unfolding has_part apart
apart_if s t k h f =
    let lows = word_apart s.low t.low k (λ x l a b. let e = lt-ltb x 64 l in f x (omega arith) (rw e a) (rw e b)) in
    let highs = word_apart s.high t.high h (λ x l a b.
    let e = le-ltb (x + 64) 64 (omega arith) in
    let z : x + 64 - 64 ≡ x = omega arith in
    f (x + 64) (omega arith) (rw (e, z) a) (rw (e, z) b)) in
    rw (lows, highs) tt
