-- Laws of the number of those that pass a test, and of the lowest.
use Prim.Native.Nat.{ℕ, zero, suc, ◌+◌, ◌≤◌, ◌<◌, zero-le}
use native.Mathlib.Omega.{arith}
use native.Mathlib.Nat.{le_refl}
use mathlib.Core.Path.{◌≡◌, refl, ap, sym, ◌∙◌}
use mathlib.Core.Logic.{◌≢◌, ◌⊎◌, inl, inr, ⊎_elim}
use mathlib.Core.Bool.{Bool, true, false, not, cond, ◌&&◌, and-true, and-false}
use lib.Dec.{T, ltb, eqb, T_not, not_T, ltb→lt, eqb→eq, eqb_refl, lt→ltb}
use Rattle.model.proofs.Tests.{le_or_lt, test, true_T, false_T, and_left, and_right, and_in, cond_case, one_le}
use Rattle.order_rules.specs.Number.{number, lowest, without}

-- more pass a weaker test
pub number_le : (f g : ℕ → Bool) (m : ℕ) → ((i : ℕ) → i < m → T (f i) → T (g i)) → number f m ≤ number g m
unfolding number
number_le f g zero h = zero-le
number_le f g (suc m) h = omega (arith, number_le f g m (λ i l. h i (omega arith)), one_le (f m) (g m) (h m (le_refl _)))

pub number-none : (f : ℕ → Bool) (m : ℕ) → ((i : ℕ) → i < m → T (f i) → ⊥) → number f m ≡ 0
unfolding number
number-none f zero h = refl
number-none f (suc m) h = omega (arith, number-none f m (λ i l. h i (omega arith)), one_le (f m) false (h m (le_refl _)))

pub number-all : (m : ℕ) → number (λ _. true) m ≡ m
unfolding number
number-all zero = refl
number-all (suc m) = omega (arith, number-all m)

-- one that passes is counted
pub number_pos : (f : ℕ → Bool) (m i : ℕ) → i < m → T (f i) → 0 < number f m
unfolding number
number_pos f zero i l t = absurd (omega arith)
number_pos f (suc m) i l t =
    ⊎_elim
    (λ p. let e : i ≡ m = omega arith in omega (arith, one_le true (f m) (λ _. rw (sym e) t)))
    (λ p. omega (arith, number_pos f m i p t))
    (le_or_lt m i)

pub number_cong : (f g : ℕ → Bool) (m : ℕ) → ((i : ℕ) → i < m → f i ≡ g i) → number f m ≡ number g m
unfolding number
number_cong f g zero h = refl
number_cong f g (suc m) h = omega (arith, number_cong f g m (λ i l. h i (omega arith)), ap {B = ℕ} (λ b. cond b 1 0) (h m (le_refl _)))

-- two tests that differ at x alone
pub number_but : (f g : ℕ → Bool) (x m : ℕ) → x < m → ((i : ℕ) → i < m → x ≢ i → f i ≡ g i)
    → number f m + cond (g x) 1 0 ≡ number g m + cond (f x) 1 0
unfolding number
number_but f g x zero l h = absurd (omega arith)
number_but f g x (suc m) l h =
    ⊎_elim
    (λ p. let e : x ≡ m = omega arith in rw e (omega (arith, number_cong f g m (λ i k. h i (omega arith) (λ q. omega arith)))))
    (λ p. omega (arith, number_but f g x m p (λ i k. h i (omega arith)), ap {B = ℕ} (λ b. cond b 1 0) (h m (le_refl _) (λ e. omega arith))))
    (le_or_lt m x)

without_other : (left : ℕ → Bool) (x i : ℕ) → x ≢ i → without x left i ≡ left i
without_other left x i n = rw (false_T (eqb x i) (not_T (eqb x i) (λ t. n (eqb→eq x i t)))) (and-true (left i))

pub without-left : (left : ℕ → Bool) (x i : ℕ) → T (without x left i) → T (left i)
without-left left x i t = and_left (left i) (not (eqb x i)) t

pub without_differs : (left : ℕ → Bool) (x i : ℕ) → T (without x left i) → x ≢ i
without_differs left x i t e = T_not (eqb x i) (and_right (left i) (not (eqb x i)) t) (rw e (eqb_refl i))

pub without_in : (left : ℕ → Bool) (x i : ℕ) → T (left i) → x ≢ i → T (without x left i)
without_in left x i t n = rw (without_other left x i n) t

-- of those that pass both tests, x is one if it passes the second
pub number-without : (left f : ℕ → Bool) (x m : ℕ) → x < m → T (left x)
    → number (λ i. left i && f i) m ≡ number (λ i. without x left i && f i) m + cond (f x) 1 0
number-without left f x m l t =
    let r = number_but (λ i. without x left i && f i) (λ i. left i && f i) x m l (λ i k n. ap (λ b. b && f i) (without_other left x i n)) in
    let self : without x left x ≡ false = rw (true_T (eqb x x) (eqb_refl x)) (and-false (left x)) in
    let whole : left x ≡ true = true_T (left x) t in
    omega (arith, rw (self, whole) at r)

-- the lowest
pub lowest_le : (f : ℕ → Bool) (m : ℕ) → lowest f m ≤ m
unfolding lowest
lowest_le f zero = zero-le
lowest_le f (suc m) =
    let h = lowest_le f m in
    cond_case (λ r. r ≤ suc m) (f (lowest f m)) (λ _. omega arith) (λ _. le_refl _)

pub lowest_passes : (f : ℕ → Bool) (m : ℕ) → lowest f m < m → T (f (lowest f m))
unfolding lowest
lowest_passes f zero = λ l. absurd (omega arith)
lowest_passes f (suc m) = cond_case (λ r. r < suc m → T (f r)) (f (lowest f m)) (λ p l. p) (λ n l. absurd (omega arith))

pub lowest_least : (f : ℕ → Bool) (m i : ℕ) → i < lowest f m → T (f i) → ⊥
unfolding lowest
lowest_least f zero i = λ l t. omega arith
lowest_least f (suc m) i =
    cond_case (λ r. i < r → T (f i) → ⊥) (f (lowest f m)) (λ _. lowest_least f m i)
    (λ n l t. ⊎_elim (λ p. last n l t p) (λ p. lowest_least f m i p t) (le_or_lt (lowest f m) i))
  where
    last : T (not (f (lowest f m))) → i < suc m → T (f i) → lowest f m ≤ i → ⊥
    last n l t p =
        ⊎_elim
        (λ q. let e : i ≡ lowest f m = omega (arith, lowest_le f m) in T_not (f (lowest f m)) n (rw (sym e) t))
        (λ q. T_not (f (lowest f m)) n (lowest_passes f m q))
        (le_or_lt m (lowest f m))

-- what passes is not below the lowest
pub lowest-at-most : (f : ℕ → Bool) (m i : ℕ) → T (f i) → lowest f m ≤ i
lowest-at-most f m i t = ⊎_elim (λ p. p) (λ p. absurd (lowest_least f m i p t)) (le_or_lt (lowest f m) i)

-- a number is the lowest that passes if it passes, or is m, and none below it passes
pub lowest_is : (f : ℕ → Bool) (m r : ℕ) → r ≤ m → (r < m → T (f r)) → ((i : ℕ) → i < r → T (f i) → ⊥) → r ≡ lowest f m
lowest_is f m r l p n =
    ⊎_elim
    (λ h. ⊎_elim (λ k. omega arith) (λ k. absurd (lowest_least f m r k (p (omega (arith, lowest_le f m))))) (le_or_lt (lowest f m) r))
    (λ h. absurd (n (lowest f m) h (lowest_passes f m (omega arith))))
    (le_or_lt r (lowest f m))

pub lowest_cong : (f g : ℕ → Bool) (m : ℕ) → ((i : ℕ) → i < m → f i ≡ g i) → lowest f m ≡ lowest g m
lowest_cong f g m h =
    let l = lowest_le f m in
    lowest_is g m (lowest f m) l (λ k. rw (h (lowest f m) k) at (lowest_passes f m k))
    (λ i k u. lowest_least f m i k (rw (h i (omega arith)) u))

-- no number below m passes the test, or one does
pub none_or : (f : ℕ → Bool) (m : ℕ) → ((i : ℕ) → i < m → T (f i) → ⊥) ⊎ ((i : ℕ) × (i < m) × T (f i))
none_or f m =
    ⊎_elim
    (λ p. inl (λ i l. lowest_least f m i (omega arith)))
    (λ p. inr (lowest f m, p, lowest_passes f m p))
    (le_or_lt m (lowest f m))

-- a test that at most one number passes
number-one : (f : ℕ → Bool) (m : ℕ) → ((i j : ℕ) → i < m → j < m → T (f i) → T (f j) → i ≡ j) → number f m ≤ 1
unfolding number
number-one f zero h = zero-le
number-one f (suc m) h =
    ⊎_elim
    (λ t. omega (arith, one_le (f m) true (λ _. tt), number-none f m (λ i l u. omega (arith, h i m (omega arith) (le_refl _) u t))))
    (λ t. omega (arith, one_le (f m) false (T_not (f m) t), number-one f m (λ i j l k. h i j (omega arith) (omega arith))))
    (test (f m))

-- a test that passes only where one of two does
number-split : (f g h : ℕ → Bool) (m : ℕ) → ((i : ℕ) → i < m → T (f i) → T (g i) ⊎ T (h i)) → number f m ≤ number g m + number h m
unfolding number
number-split f g h zero s = zero-le
number-split f g h (suc m) s =
    let r = number-split f g h m (λ i l. s i (omega arith)) in
    ⊎_elim
    (λ t. ⊎_elim (λ u. omega (arith, one_le (f m) (g m) (λ _. u))) (λ u. omega (arith, one_le (f m) (h m) (λ _. u))) (s m (le_refl _) t))
    (λ t. omega (arith, one_le (f m) false (T_not (f m) t)))
    (test (f m))

-- those whose place is in an interval of k places, no two at one place, are at most k
pub pigeonhole : (place : ℕ → ℕ) (m : ℕ) → ((i j : ℕ) → i < m → j < m → place i ≡ place j → i ≡ j)
    → (f : ℕ → Bool) (u k : ℕ) → ((i : ℕ) → i < m → T (f i) → (u ≤ place i) × (place i < u + k)) → number f m ≤ k
pigeonhole place m inj f u zero h = omega (arith, number-none f m (λ i l t. omega (arith, h i l t)))
pigeonhole place m inj f u (suc k) h =
    omega (arith, number-split f g e m split, pigeonhole place m inj g u k fewer, number-one e m one)
  where
    g : ℕ → Bool
    g i = f i && ltb (place i) (u + k)

    e : ℕ → Bool
    e i = eqb (place i) (u + k)

    fewer : (i : ℕ) → i < m → T (g i) → (u ≤ place i) × (place i < u + k)
    fewer i l t =
        let a = and_left (f i) (ltb (place i) (u + k)) t in
        ((h i l a).0, ltb→lt (place i) (u + k) (and_right (f i) (ltb (place i) (u + k)) t))

    one : (i j : ℕ) → i < m → j < m → T (e i) → T (e j) → i ≡ j
    one i j li lj s t = inj i j li lj (eqb→eq (place i) (u + k) s ∙ sym (eqb→eq (place j) (u + k) t))

    split : (i : ℕ) → i < m → T (f i) → T (g i) ⊎ T (e i)
    split i l t =
        ⊎_elim
        (λ p. let q : place i ≡ u + k = omega (arith, h i l t) in inr (rw q (eqb_refl (u + k))))
        (λ p. inl (and_in (f i) (ltb (place i) (u + k)) t (lt→ltb (place i) (u + k) p)))
        (le_or_lt (u + k) (place i))
