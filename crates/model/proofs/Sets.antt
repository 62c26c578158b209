-- The tips of a set.
use Prim.Native.Nat.{ℕ, zero, suc, ◌+◌, ◌*◌, ◌-◌, ◌/◌, ◌%◌, ◌^◌, ◌≤◌, ◌<◌, zero-le, min, max}
use native.Mathlib.Omega.{arith}
use native.Mathlib.Nat.{div-eq_of_lt, div-eq_of_lt-le, lt_of_lt_of_le, le_refl, pos_of_ne-zero}
use native.Mathlib.Numerals.{one-add}
use mathlib.Core.Path.{◌≡◌, refl, ap, sym, subst, ◌∙◌}
use mathlib.Core.Logic.{◌↔◌, ◌⊎◌, inl, inr, ⊎_elim}
use mathlib.Core.Bool.{Bool, true, false, not, cond, ◌&&◌, ◌||◌, and_assoc}
use lib.Dec.{ltb→lt, lt→ltb, T, T_not, not_T, eqb, eqb→eq, ltb, leb-suc-suc, leb-suc-zero, leb-zero}
use lib.Bits.{bit_and, bit_or, and_step, or_step, and_zero_r, and_shr, or_shr}
use lib.Pow.{shr-shr, pow_mono, pow_pos}
use lib.Count.{count_leading_zeros, leading_top}
use Rattle.model.specs.Plan.{has, is_empty, in_rack, is_domain, Domain}
use Rattle.model.specs.CommonTip.{set_of, covers}
use Rattle.model.proofs.Tests.{le_or_lt, test, true_T, false_T, false_not, eqb_T, same_test}
use Rattle.model.proofs.Tests.{and_left, and_right, and_in, imply_in, imply_out, every_iff}

-- the digit at t
pub has-digit : (s t : ℕ) → T (has s t) → s / 2 ^ t % 2 ≡ 1
unfolding has
has-digit s t h = eqb→eq (s / 2 ^ t % 2) 1 h

pub digit-has : (s t : ℕ) → s / 2 ^ t % 2 ≡ 1 → T (has s t)
unfolding has
digit-has s t e = rw e tt

pub shift_suc : (s t : ℕ) → s / 2 ^ suc t ≡ s / 2 / 2 ^ t
shift_suc s t = sym (shr-shr s 1 t ∙ ap (λ k. s / 2 ^ k) (one-add t))

pub has-suc : (s t : ℕ) → has s (suc t) ≡ has (s / 2) t
unfolding has
has-suc s t = ap (λ x. eqb (x % 2) 1) (shift_suc s t)

-- a set below 2 ^ m has no tip from m on
pub has-below : (m s t : ℕ) → s < 2 ^ m → T (has s t) → t < m
has-below m s t h e = ⊎_elim (λ p. absurd (omega (arith, has-digit s t e, nothing p))) (λ p. p) (le_or_lt m t)
  where
    nothing : m ≤ t → s / 2 ^ t ≡ 0
    nothing p = div-eq_of_lt (lt_of_lt_of_le h (pow_mono p))

pub has_some : (s t : ℕ) → T (has s t) → 0 < s
has_some zero t h = absurd (omega (arith, has-below 0 0 t (omega arith) h))
has_some (suc s) t h = omega arith

-- a set that has a tip is not empty, and an empty set has none
pub not_empty : (s t : ℕ) → T (has s t) → is_empty s ≡ false
not_empty s t h = false_not (is_empty s) (λ e. omega (arith, has_some s t h, eqb→eq s 0 e))

pub empty_has : (s t : ℕ) → T (is_empty s) → has s t ≡ false
empty_has s t y = false_not (has s t) (λ h. omega (arith, has_some s t h, eqb→eq s 0 y))

-- the highest tip
pub highest : (m s : ℕ) → 0 < s → s < 2 ^ m → (t : ℕ) × (count_leading_zeros m s + suc t ≡ m) × T (has s t) × (s < 2 ^ suc t)
highest m s p h =
    let (t, e, lo, hi) = leading_top m s p h in
    let one : s / 2 ^ t ≡ 1 = div-eq_of_lt-le (2 ^ t) (omega arith) (omega arith) in
    (t, e, digit-has s t (rw one), hi)

-- a tip of a set that is not empty
pub some_tip : {m s : ℕ} → Domain m s → (t : ℕ) × T (has s t) × (t < m)
some_tip {m} {s} d = let (t, e, h, u) = highest m s d.some d.below in (t, h, has-below m s t d.below h)

-- ---- the test of a line's set

pub lt_pow : (n : ℕ) → n < 2 ^ n
lt_pow zero = omega arith
lt_pow (suc n) = omega (arith, lt_pow n)

-- a set is in the rack exactly when each of its tips is
pub in_rack_iff : (m s : ℕ) → T (in_rack m s) ↔ ((t : ℕ) → T (has s t) → t < m)
unfolding in_rack
in_rack_iff m s = (
  λ h t. has-below m s t (ltb→lt s (2 ^ m) h),
  λ f. lt→ltb s (2 ^ m) (⊎_elim (λ z. omega (arith, pow_pos m)) (below f) (le_or_lt s 0)),
)
  where
    below : ((t : ℕ) → T (has s t) → t < m) → 0 < s → s < 2 ^ m
    below f p =
        let (t, e, h, u) = highest s s p (lt_pow s) in
        lt_of_lt_of_le u (pow_mono (f t h))

-- the test passes exactly for a domain
pub domain_iff : (m s : ℕ) → T (is_domain m s) ↔ Domain m s
unfolding is_domain in_rack
domain_iff m s = (
  λ t. record {
    some = pos_of_ne-zero (λ e. T_not (is_empty s) (and_left (not (is_empty s)) (ltb s (2 ^ m)) t) (rw e tt));
    below = ltb→lt s (2 ^ m) (and_right (not (is_empty s)) (ltb s (2 ^ m)) t);
  },
  λ d. and_in (not (is_empty s)) (ltb s (2 ^ m)) (not_T (is_empty s) (λ e. omega (arith, d.some, eqb→eq s 0 e))) (lt→ltb s (2 ^ m) d.below),
)

-- ---- the set of the tips that pass a test

digit : (m : ℕ) (b : Bool) → (cond b (2 ^ suc m) 0 ≡ 2 * cond b (2 ^ m) 0) × (cond b (2 ^ m) 0 ≤ 2 ^ m)
digit m true =
    let e : 2 ^ suc m ≡ 2 * 2 ^ m = omega arith in
    (e, le_refl _)
digit m false = (refl, zero-le)

pub set_of-low : (f : ℕ → Bool) (m : ℕ) → set_of f (suc m) ≡ cond (f 0) 1 0 + 2 * set_of (λ t. f (suc t)) m
unfolding set_of
set_of-low f zero = omega arith
set_of-low f (suc m) = omega (arith, set_of-low f m, digit m (f (suc m)))

pub set_of_lt : (f : ℕ → Bool) (m : ℕ) → set_of f m < 2 ^ m
unfolding set_of
set_of_lt f zero = omega arith
set_of_lt f (suc m) = omega (arith, set_of_lt f m, digit m (f m))

-- all tips, and none
pub set_of-all : (m : ℕ) → set_of (λ t. true) m ≡ 2 ^ m - 1
unfolding set_of
set_of-all zero = refl
set_of-all (suc m) = omega (arith, set_of-all m, pow_pos m)

pub set_of-none : (m : ℕ) → set_of (λ t. false) m ≡ 0
unfolding set_of
set_of-none zero = refl
set_of-none (suc m) = omega (arith, set_of-none m)

-- tests that agree below m give the same set
pub set_of_cong : (f g : ℕ → Bool) (m : ℕ) → ((t : ℕ) → t < m → f t ≡ g t) → set_of f m ≡ set_of g m
unfolding set_of
set_of_cong f g zero h = refl
set_of_cong f g (suc m) h = rw (set_of_cong f g m (λ t l. h t (omega arith)), h m (omega arith))

has-low-digit : (b : Bool) (x : ℕ) → (has (cond b 1 0 + 2 * x) 0 ≡ b) × ((cond b 1 0 + 2 * x) / 2 ≡ x)
unfolding has
has-low-digit true x =
    let e : (1 + 2 * x) / 2 ^ 0 % 2 ≡ 1 = omega arith in
    (rw e, omega arith)
has-low-digit false x =
    let e : (0 + 2 * x) / 2 ^ 0 % 2 ≡ 0 = omega arith in
    (rw e, omega arith)

pub has-set_of : (f : ℕ → Bool) (m t : ℕ) → has (set_of f m) t ≡ (ltb t m && f t)
unfolding set_of
has-set_of f zero t = rw (leb-suc-zero t) (empty_has 0 t tt)
has-set_of f (suc m) zero = rw (set_of-low f m, (has-low-digit (f 0) (set_of (λ u. f (suc u)) m)).0, leb-suc-suc, leb-zero)
has-set_of f (suc m) (suc t) =
    let g : ℕ → Bool = λ u. f (suc u) in
    rw (set_of-low f m, has-suc, (has-low-digit (f 0) (set_of g m)).1, leb-suc-suc) (has-set_of g m t)

-- ---- sets and bits

pub and_digit : (a b t : ℕ) → bit_and a b / 2 ^ t % 2 ≡ min (a / 2 ^ t % 2) (b / 2 ^ t % 2)
and_digit a b t = ap (λ x. x % 2) (and_shr a b t) ∙ omega (arith, and_step (a / 2 ^ t) (b / 2 ^ t))

pub or_digit : (a b t : ℕ) → bit_or a b / 2 ^ t % 2 ≡ max (a / 2 ^ t % 2) (b / 2 ^ t % 2)
or_digit a b t = ap (λ x. x % 2) (or_shr a b t) ∙ omega (arith, or_step (a / 2 ^ t) (b / 2 ^ t))

pub has_and : (a b t : ℕ) → has (bit_and a b) t ≡ (has a t && has b t)
has_and a b t =
    let e = and_digit a b t in
    same_test (has (bit_and a b) t) (has a t && has b t)
    (λ h. let d = has-digit (bit_and a b) t h in and_in (has a t) (has b t) (digit-has a t (omega arith)) (digit-has b t (omega arith)))
    (λ h. digit-has (bit_and a b) t (omega (arith, has-digit a t (search and_left), has-digit b t (search and_right))))

-- a union has the tips of both sets
module _ (a b t : ℕ) where
  pub or_left : T (has a t) → T (has (bit_or a b) t)
  or_left h = digit-has (bit_or a b) t (omega (arith, or_digit a b t, has-digit a t h))

  pub or_right : T (has b t) → T (has (bit_or a b) t)
  or_right h = digit-has (bit_or a b) t (omega (arith, or_digit a b t, has-digit b t h))

  pub has_or : has (bit_or a b) t ≡ (has a t || has b t)
  has_or =
      ⊎_elim
      (λ h. rw (true_T (has a t) h) (true_T (has (bit_or a b) t) (or_left h)))
      (λ n. rw (false_T (has a t) n) (same_test (has (bit_or a b) t) (has b t) (other n) or_right))
      (test (has a t))
    where
      other : T (not (has a t)) → T (has (bit_or a b) t) → T (has b t)
      other n h =
          let e = has-digit (bit_or a b) t h in
          ⊎_elim
          (λ p. digit-has b t (omega (arith, or_digit a b t)))
          (λ p. absurd (T_not (has a t) n (digit-has a t (omega (arith, or_digit a b t)))))
          (le_or_lt 1 (b / 2 ^ t % 2))

same_below : (k a b : ℕ) → a < 2 ^ k → b < 2 ^ k → ((t : ℕ) → has a t ≡ has b t) → a ≡ b
same_below zero a b p q h = omega arith
same_below (suc k) a b p q h =
    let halves : (t : ℕ) → has (a / 2) t ≡ has (b / 2) t = λ t. rw (has-suc a t, has-suc b t) at (h (suc t)) in
    let e : a / 2 ≡ b / 2 = same_below k (a / 2) (b / 2) (omega arith) (omega arith) halves in
    omega (arith, last a b (h 0), last b a (sym (h 0)))
  where
    last : (x y : ℕ) → has x 0 ≡ has y 0 → x % 2 ≤ y % 2
    last x y e = ⊎_elim (λ p. omega (arith, has-digit y 0 (rw e at (digit-has x 0 (omega arith))))) (λ p. omega arith) (le_or_lt 1 (x % 2))

-- sets with the same tips are equal
pub set_same : (a b : ℕ) → ((t : ℕ) → has a t ≡ has b t) → a ≡ b
set_same a b h =
    let p : a ≤ a + b = omega arith in
    let q : b ≤ a + b = omega arith in
    same_below (a + b) a b (lt_of_lt_of_le (lt_pow a) (pow_mono p)) (lt_of_lt_of_le (lt_pow b) (pow_mono q)) h

-- the tips of p among those that pass a test
pub and_set_of : (f : ℕ → Bool) (m p : ℕ) → bit_and (set_of f m) p ≡ set_of (λ t. f t && has p t) m
and_set_of f m p = set_same _ _ (λ t. rw (has_and, has-set_of, has-set_of) (and_assoc (ltb t m) (f t) (has p t)))

-- each tip of w is in s, or some tip of w is not
pub covers_or : (k s w : ℕ) → w < 2 ^ k → (bit_and s w ≡ w) ⊎ ((t : ℕ) × T (has w t) × T (not (has s t)))
covers_or zero s w h =
    let z : w ≡ 0 = omega arith in
    rw z (inl (and_zero_r s))
covers_or (suc k) s w h =
    ⊎_elim
    (λ e. last e (le_or_lt (w % 2) (s % 2)))
    (λ (t, a, b). inr (suc t, rw has-suc a, rw has-suc b))
    (covers_or k (s / 2) (w / 2) (omega arith))
  where
    last : bit_and (s / 2) (w / 2) ≡ w / 2 → (w % 2 ≤ s % 2) ⊎ (s % 2 < w % 2)
        → (bit_and s w ≡ w) ⊎ ((t : ℕ) × T (has w t) × T (not (has s t)))
    last e (inl p) = inl (omega (arith, and_step s w))
    last e (inr p) = inr (0, digit-has w 0 (omega arith), not_T (has s 0) (λ h. omega (arith, has-digit s 0 h)))

module _ (m s w : ℕ) (l : w < 2 ^ m) where
  -- the test that s has all of w
  pub covers_iff : T (covers m s w) ↔ ((t : ℕ) → T (has w t) → T (has s t))
  unfolding covers
  covers_iff = (
    λ c t h. imply_out (has w t) (has s t) ((every_iff (λ u. not (has w u) || has s u) m).0 c t (has-below m w t l h)) h,
    λ f. (every_iff (λ u. not (has w u) || has s u) m).1 (λ t _. imply_in (has w t) (has s t) (f t)),
  )

  -- s & w == w decides it
  pub covers_and : covers m s w ≡ eqb (bit_and s w) w
  covers_and =
      same_test (covers m s w) (eqb (bit_and s w) w)
      (λ c. ⊎_elim (eqb_T (bit_and s w) w) (λ (t, a, b). absurd (T_not (has s t) b (covers_iff.0 c t a))) (covers_or m s w l))
      (λ e. covers_iff.1 (λ t h.
      let both = subst (λ x. T (has x t)) (sym (eqb→eq (bit_and s w) w e)) h in
      and_left (has s t) (has w t) (rw (has_and s w t) at both)))
