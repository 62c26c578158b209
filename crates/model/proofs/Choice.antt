-- Laws of the choice of a tip among those at which a count is largest.
use Prim.Native.Nat.{ℕ, zero, suc, ◌+◌, ◌*◌, ◌-◌, ◌≤◌, ◌<◌}
use native.Mathlib.Omega.{arith}
use mathlib.Core.Path.{◌≡◌, refl, ap, sym}
use mathlib.Core.Logic.{⊎_elim}
use mathlib.Core.Bool.{Bool, true, cond, ◌&&◌}
use lib.Dec.{T, T_not, ltb, eqb, ltb→lt, lt→ltb, eqb→eq, eqb_refl, leb-suc-zero}
use borrow.Author.Tests.{ne_eqb, le-leb, lt-leb}
use Rattle.model.specs.Count.{largest, lowest_at}
use Rattle.model.specs.Plan.{has}
use Rattle.model.specs.CommonTip.{set_of}
use Rattle.model.specs.Choice.{Mounted, bare, tip, is_on, choice, from}
use Rattle.model.proofs.Tests.{le_or_lt, test, true_T, eqb_T, same_test, cond_case, and_left, and_right, and_in, one_le}
use Rattle.model.proofs.Sets.{has-set_of}
use Rattle.model.proofs.Largest.{largest_ge, lowest_lt, lowest_attains, lowest-first, lowest-only, lowest_cong, lowest_order}

module _ (f : ℕ → ℕ) where
  -- the test that a tip below m is tied, and what it says
  abbrev tied : ℕ → ℕ → Bool
  tied t m = ltb t m && eqb (f t) (largest f m)

  module _ (t m : ℕ) where
    tied_lt : T (tied t m) → t < m
    tied_lt y = ltb→lt t m (and_left (ltb t m) (eqb (f t) (largest f m)) y)

    tied-largest : T (tied t m) → f t ≡ largest f m
    tied-largest y = eqb→eq (f t) (largest f m) (and_right (ltb t m) (eqb (f t) (largest f m)) y)

    is_tied : t < m → f t ≡ largest f m → T (tied t m)
    is_tied l e = and_in (ltb t m) (eqb (f t) (largest f m)) (lt→ltb t m l) (eqb_T (f t) (largest f m) e)

  -- whatever is mounted, f is largest at the choice
  pub choice_attains : (mounted : Mounted) (m : ℕ) → largest f m ≤ f (choice mounted f m)
  unfolding choice
  choice_attains bare m = lowest_attains f m
  choice_attains (tip t) m =
      cond_case (λ u. largest f m ≤ f u) (tied t m) (λ y. omega (arith, tied-largest t m y)) (λ _. lowest_attains f m)

  pub choice_lt : (mounted : Mounted) (m : ℕ) → 0 < m → choice mounted f m < m
  unfolding choice
  choice_lt bare m p = lowest_lt f m p
  choice_lt (tip t) m p = cond_case (λ u. u < m) (tied t m) (tied_lt t m) (λ _. lowest_lt f m p)

  -- the mounted tip wins a tie
  pub choice-tied : (t m : ℕ) → t < m → f t ≡ largest f m → choice (tip t) f m ≡ t
  unfolding choice
  choice-tied t m l e = rw (true_T (tied t m) (is_tied t m l e))

  -- a mounted tip that is not tied changes nothing
  pub choice_else : (t m : ℕ) → (t < m → f t ≡ largest f m → ⊥) → choice (tip t) f m ≡ choice bare f m
  unfolding choice
  choice_else t m n =
      cond_case (λ u. u ≡ lowest_at f m) (tied t m) (λ y. absurd (n (tied_lt t m y) (tied-largest t m y))) (λ _. refl)

-- a count that is one more at the mounted tip, and no tie between tips of different counts
abbrev pub favour : Mounted → (ℕ → ℕ) → ℕ → ℕ
favour mounted f t = 2 * f t + cond (is_on mounted t) 1 0

on_self : (t : ℕ) → ◌≡◌ {A = ℕ} (cond (eqb t t) 1 0) 1
on_self t = rw (true_T (eqb t t) (eqb_refl t))

on_other : (t u : ℕ) → (t ≡ u → ⊥) → ◌≡◌ {A = ℕ} (cond (eqb t u) 1 0) 0
on_other t u n = rw (ne_eqb t u n)

-- the choice is the lowest number at which this is largest
pub choice-favour : (mounted : Mounted) (f : ℕ → ℕ) (m : ℕ) → choice mounted f m ≡ lowest_at (favour mounted f) m
unfolding choice is_on lowest_at
choice-favour bare f zero = refl
choice-favour (tip t) f zero = rw (leb-suc-zero t)
choice-favour bare f (suc n) =
    let m = suc n in
    sym (lowest-only (favour bare f) m (lowest_at f m) (lowest_lt f m (omega arith))
    (λ u l. omega (arith, largest_ge f m u l, lowest_attains f m)) (λ u l. omega (arith, lowest-first f m u l)))
choice-favour (tip t) f (suc n) =
    cond_case (λ u. u ≡ lowest_at (favour (tip t) f) m) (tied f t m)
    (λ y. wins (tied_lt f t m y) (tied-largest f t m y))
    (λ y. sym (lowest-only (favour (tip t) f) m (lowest_at f m) (lowest_lt f m (omega arith)) (less (T_not (tied f t m) y)) below))
  where
    m : ℕ
    m = suc n

    one : (u : ℕ) → cond (eqb t u) 1 0 ≤ 1
    one u = one_le (eqb t u) true (λ _. tt)

    wins : t < m → f t ≡ largest f m → t ≡ lowest_at (favour (tip t) f) m
    wins l e =
        sym (lowest-only (favour (tip t) f) m t l
        (λ u b. omega (arith, on_self t, one u, largest_ge f m u b))
        (λ u b. omega (arith, on_self t, on_other t u (λ x. omega arith), largest_ge f m u (omega arith))))

    less : (T (tied f t m) → ⊥) → (u : ℕ) → u < m → favour (tip t) f u ≤ favour (tip t) f (lowest_at f m)
    less differ u l =
        ⊎_elim
        (λ e.
        let q : t ≡ u = eqb→eq t u e in
        ⊎_elim
        (λ p. absurd (differ (tie q p l)))
        (λ p. omega (arith, one u, ap f q, lowest_attains f m))
        (le_or_lt (largest f m) (f t)))
        (λ n. omega (arith, on_other t u (λ e. T_not (eqb t u) n (eqb_T t u e)), largest_ge f m u l, lowest_attains f m))
        (test (eqb t u))
      where
        tie : t ≡ u → largest f m ≤ f t → u < m → T (tied f t m)
        tie q p b =
            let c : t < m = omega arith in
            is_tied f t m c (omega (arith, largest_ge f m t c))

    below : (u : ℕ) → u < lowest_at f m → favour (tip t) f u < favour (tip t) f (lowest_at f m)
    below u l = omega (arith, one u, lowest-first f m u l)

pub choice_cong : (mounted : Mounted) (f g : ℕ → ℕ) (m : ℕ) → ((t : ℕ) → t < m → f t ≡ g t)
    → choice mounted f m ≡ choice mounted g m
choice_cong mounted f g m h =
    rw (choice-favour mounted f m, choice-favour mounted g m) (lowest_cong _ _ m (λ t l. omega (arith, h t l)))

order_suc : (x y u v : ℕ) → ltb (2 * suc x + u) (2 * suc y + v) ≡ ltb (2 * x + u) (2 * y + v)
order_suc x y u v =
    same_test (ltb (2 * suc x + u) (2 * suc y + v)) (ltb (2 * x + u) (2 * y + v))
    (λ l. lt→ltb (2 * x + u) (2 * y + v) (omega (arith, ltb→lt (2 * suc x + u) (2 * suc y + v) l)))
    (λ l. lt→ltb (2 * suc x + u) (2 * suc y + v) (omega (arith, ltb→lt (2 * x + u) (2 * y + v) l)))

-- one more everywhere changes no choice
pub choice-suc : (mounted : Mounted) (f : ℕ → ℕ) (m : ℕ) → choice mounted (λ t. suc (f t)) m ≡ choice mounted f m
choice-suc mounted f m =
    rw (choice-favour mounted (λ t. suc (f t)) m, choice-favour mounted f m) (lowest_order _ _ m (λ t u. order_suc (f t) (f u) _ _))

-- tip i counted from a is tip a + i
pub from_on : (a : ℕ) (mounted : Mounted) (i : ℕ) → is_on (from a mounted) i ≡ is_on mounted (a + i)
unfolding from is_on
from_on a bare i = refl
from_on a (tip t) i =
    ⊎_elim
    (λ p. rw (le-leb a t p) (same_test (eqb (t - a) i) (eqb t (a + i))
    (λ e. eqb_T t (a + i) (omega (arith, eqb→eq (t - a) i e))) (λ e. eqb_T (t - a) i (omega (arith, eqb→eq t (a + i) e)))))
    (λ p. rw (lt-leb a t p) (sym (ne_eqb t (a + i) (λ e. omega arith))))
    (le_or_lt a t)

pub from_in : (a t : ℕ) → a ≤ t → from a (tip t) ≡ tip (t - a)
unfolding from
from_in a t h = rw (le-leb a t h)

pub from_out : (a t : ℕ) → t < a → from a (tip t) ≡ bare
unfolding from
from_out a t h = rw (lt-leb a t h)

-- where f is not 0 everywhere, the tied are the tips of the set in which f is largest and not 0
pub choice-set : (f : ℕ → ℕ) (m t : ℕ) → 0 < largest f m
    → choice (tip t) f m ≡ cond (has (set_of (λ u. ltb 0 (f u) && eqb (f u) (largest f m)) m) t) t (choice bare f m)
unfolding choice
choice-set f m t p = rw (has-set_of busy m t) (ap (λ b. cond b t (lowest_at f m)) same)
  where
    busy : ℕ → Bool
    busy u = ltb 0 (f u) && eqb (f u) (largest f m)

    same : tied f t m ≡ (ltb t m && busy t)
    same =
        let n = largest f m in
        same_test (tied f t m) (ltb t m && busy t)
        (λ y.
        let e = tied-largest f t m y in
        let some = lt→ltb 0 (f t) (omega arith) in
        and_in (ltb t m) (busy t) (lt→ltb t m (tied_lt f t m y)) (and_in (ltb 0 (f t)) (eqb (f t) n) some (eqb_T (f t) n e)))
        (λ y.
        let b = and_right (ltb t m) (busy t) y in
        and_in (ltb t m) (eqb (f t) n) (and_left (ltb t m) (busy t) y) (and_right (ltb 0 (f t)) (eqb (f t) n) b))
