-- A set without one of its tips, and the number of the numbers below m that pass a test.
use Prim.Native.Nat.{ℕ, zero, suc, ◌-◌, ◌/◌, ◌%◌, ◌^◌, ◌≤◌, ◌<◌, zero-le}
use native.Mathlib.Omega.{arith}
use mathlib.Core.Path.{◌≡◌, refl, ap}
use mathlib.Core.Logic.{⊎_elim}
use mathlib.Core.Bool.{Bool, true, false}
use lib.Dec.{T}
use lib.Pow.{pow_pos}
use Rattle.model.specs.Plan.{has}
use Rattle.model.specs.Renumber.{rank}
use Rattle.model.proofs.Tests.{le_or_lt, true_T, false_not, one_le}
use Rattle.model.proofs.Sets.{has-digit, has-suc, has-below}
use Rattle.subset_rules.specs.Subsets.{size}

-- a set is at least the power of each of its tips
pub pow_le : (u t : ℕ) → T (has u t) → 2 ^ t ≤ u
pow_le u t h = ⊎_elim (λ p. p) (λ p. absurd (omega (arith, has-below t u t p h))) (le_or_lt (2 ^ t) u)

parity : (x y : ℕ) → x % 2 ≡ y % 2 → has x 0 ≡ has y 0
unfolding has
parity x y e =
    let a : x / 2 ^ 0 % 2 ≡ y / 2 ^ 0 % 2 = omega arith in
    rw a

-- the digit of the tip is gone
pub drop_own : (u t : ℕ) → T (has u t) → has (u - 2 ^ t) t ≡ false
drop_own u zero h =
    let d = has-digit u 0 h in
    false_not (has (u - 2 ^ 0) 0) (λ g. omega (arith, has-digit (u - 2 ^ 0) 0 g))
drop_own u (suc t) h =
    let l = pow_le u (suc t) h in
    let e : (u - 2 ^ suc t) / 2 ≡ u / 2 - 2 ^ t = omega arith in
    rw (has-suc, e) (drop_own (u / 2) t (rw has-suc at h))

-- and every other stays
pub drop_other : (u t v : ℕ) → T (has u t) → (v ≡ t → ⊥) → has (u - 2 ^ t) v ≡ has u v
drop_other u zero zero h n = absurd (n refl)
drop_other u zero (suc v) h n =
    let d = has-digit u 0 h in
    let e : (u - 2 ^ 0) / 2 ≡ u / 2 = omega arith in
    rw (has-suc, has-suc, e)
drop_other u (suc t) zero h n =
    let l = pow_le u (suc t) h in
    parity (u - 2 ^ suc t) u (omega arith)
drop_other u (suc t) (suc v) h n =
    let l = pow_le u (suc t) h in
    let e : (u - 2 ^ suc t) / 2 ≡ u / 2 - 2 ^ t = omega arith in
    rw (has-suc, has-suc, e) (drop_other (u / 2) t v (rw has-suc at h) (λ q. n (ap suc q)))

-- a smaller set, within the same rack
pub drop_lt : (u t : ℕ) → T (has u t) → u - 2 ^ t < u
drop_lt u t h = omega (arith, pow_le u t h, pow_pos t)

-- ---- how many numbers below m pass a test

pub rank_cong : (f g : ℕ → Bool) (m : ℕ) → ((t : ℕ) → t < m → f t ≡ g t) → rank f m ≡ rank g m
unfolding rank
rank_cong f g zero h = refl
rank_cong f g (suc m) h = rw (rank_cong f g m (λ t l. h t (omega arith)), h m (omega arith))

-- one more passes
pub rank-added : (f g : ℕ → Bool) (c m : ℕ) → c < m → f c ≡ false → g c ≡ true → ((t : ℕ) → (t ≡ c → ⊥) → f t ≡ g t)
    → rank g m ≡ suc (rank f m)
unfolding rank
rank-added f g c zero l x y h = absurd (omega arith)
rank-added f g c (suc m) l x y h =
    ⊎_elim
    (λ p.
    let q : m ≡ c = omega arith in
    rw (q, x, y) (omega (arith, rank_cong f g c (λ t b. h t (λ z. omega arith)))))
    (λ p. rw (h m (λ z. omega arith)) (omega (arith, rank-added f g c m p x y h)))
    (le_or_lt m c)

-- a test that passes wherever another does
pub rank-more : (f g : ℕ → Bool) (m : ℕ) → ((t : ℕ) → T (f t) → T (g t)) → rank f m ≤ rank g m
unfolding rank
rank-more f g zero h = zero-le
rank-more f g (suc m) h = omega (arith, rank-more f g m h, one_le (f m) (g m) (h m))

-- and for one number more
pub rank_less : (f g : ℕ → Bool) (c m : ℕ) → c < m → f c ≡ false → g c ≡ true → ((t : ℕ) → T (f t) → T (g t))
    → rank f m < rank g m
unfolding rank
rank_less f g c zero l x y h = absurd (omega arith)
rank_less f g c (suc m) l x y h =
    ⊎_elim
    (λ p.
    let q : m ≡ c = omega arith in
    rw (q, x, y) (omega (arith, rank-more f g c h)))
    (λ (p : c < m). omega (arith, rank_less f g c m p x y h, one_le (f m) (g m) (h m)))
    (le_or_lt m c)

-- a set has one tip more than what is left without one of its tips
pub size-drop : (m u t : ℕ) → u < 2 ^ m → T (has u t) → size m u ≡ suc (size m (u - 2 ^ t))
size-drop m u t l h =
    rank-added (has (u - 2 ^ t)) (has u) t m (has-below m u t l h) (drop_own u t h) (true_T (has u t) h) (λ v n. drop_other u t v h n)

pub size_zero : (m : ℕ) → size m 0 ≡ 0
unfolding rank
size_zero zero = refl
size_zero (suc m) = rw (false_not (has 0 m) (λ h. omega (arith, has-below 0 0 m (omega arith) h))) (omega (arith, size_zero m))
