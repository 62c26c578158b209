-- Laws of what comes first by a test, and of the lowest that passes it.
use Prim.Native.Nat.{ℕ, ◌≤◌, ◌<◌}
use native.Mathlib.Omega.{arith}
use mathlib.Core.Path.{◌≡◌, refl, ap}
use mathlib.Core.Logic.{◌⊎◌, inl, inr, ⊎_elim}
use mathlib.Core.Bool.{Bool, true, false, not, ◌&&◌, ◌||◌}
use lib.Dec.{T, ltb, not_T, ltb→lt, lt→ltb, nltb→le}
use Rattle.model.proofs.Tests.{le_or_lt, test, true_T, false_T, same_test, cond_case, and_left, and_right, and_in}
use Rattle.order_rules.specs.Number.{comes_first, lowest, lowest_on}
use Rattle.order_rules.specs.Prefer.{Chooses}
use Rattle.order_rules.proofs.Number.{lowest_passes, lowest-at-most, lowest_cong}

-- which comes first, by whether each passes and by whether the first is lower
alone_first : (a b c : Bool) → T a → T (not b) → T ((a && not b) || ((a || not b) && c))
alone_first true true c u n = absurd n
alone_first true false c u n = tt
alone_first false b c u n = absurd u

lower_first : (a b c : Bool) → (T b → T a) → T c → T ((a && not b) || ((a || not b) && c))
lower_first true true c f u = u
lower_first true false c f u = tt
lower_first false true c f u = absurd (f tt)
lower_first false false c f u = u

not_both : (a b c d : Bool) → (T c → T d → ⊥) → T ((a && not b) || ((a || not b) && c)) → T ((b && not a) || ((b || not a) && d)) → ⊥
not_both true true c d n = n
not_both true false c d n = λ u v. v
not_both false true c d n = λ u v. u
not_both false false c d n = n

pub passes_too : (a b c : Bool) → T ((a && not b) || ((a || not b) && c)) → T b → T a
passes_too true b c u v = tt
passes_too false true c u v = u
passes_too false false c u v = v

-- no two numbers each come before the other
pub first_asym : (on : ℕ → Bool) (x y : ℕ) → T (comes_first on x y) → T (comes_first on y x) → ⊥
unfolding comes_first
first_asym on x y = not_both (on x) (on y) (ltb x y) (ltb y x) (λ u v. omega (arith, ltb→lt x y u, ltb→lt y x v))

-- the lowest that is on, or else the lowest
module _ (on f : ℕ → Bool) (m : ℕ) where
  both : ℕ → Bool
  both i = f i && on i

  pub on_passes : lowest_on on f m < m → T (f (lowest_on on f m))
  unfolding lowest_on both
  on_passes =
      let x = lowest both m in
      cond_case (λ r. r < m → T (f r)) (ltb x m) (λ l _. and_left (f x) (on x) (lowest_passes both m (ltb→lt x m l))) (λ _. lowest_passes f m)

  on_inside : (y : ℕ) → y < m → T (f y) → lowest_on on f m < m
  unfolding lowest_on both
  on_inside y l u = cond_case (λ r. r < m) (ltb (lowest both m) m) (ltb→lt (lowest both m) m) (λ _. omega (arith, lowest-at-most f m y u))

  on_first : (y : ℕ) → y < m → T (f y) → (lowest_on on f m ≡ y) ⊎ T (comes_first on (lowest_on on f m) y)
  unfolding lowest_on both comes_first
  on_first y l u =
      let x = lowest both m in
      let z = lowest f m in
      let lower : (r : ℕ) → r ≤ y → (T (on y) → T (on r)) → (r ≡ y) ⊎ T (comes_first on r y) =
      λ r h k. ⊎_elim (λ q. inl (omega arith)) (λ q. inr (lower_first (on r) (on y) (ltb r y) k (lt→ltb r y q))) (le_or_lt y r) in
      cond_case (λ r. (r ≡ y) ⊎ T (comes_first on r y)) (ltb x m)
      (λ k.
      let w = and_right (f x) (on x) (lowest_passes both m (ltb→lt x m k)) in
      ⊎_elim
      (λ v. lower x (lowest-at-most both m y (and_in (f y) (on y) u v)) (λ _. w))
      (λ v. inr (alone_first (on x) (on y) (ltb x y) w v))
      (test (on y)))
      (λ k. lower z (lowest-at-most f m y u)
      (λ v. absurd (omega (arith, nltb→le x m k, lowest-at-most both m y (and_in (f y) (on y) u v)))))

  -- where all are alike it is the lowest
  pub on_alike : ((i j : ℕ) → i < m → j < m → T (on i) → T (on j)) → lowest_on on f m ≡ lowest f m
  unfolding lowest_on both
  on_alike h =
      let x = lowest both m in
      cond_case (λ r. r ≡ lowest f m) (ltb x m)
      (λ k.
      let w = and_right (f x) (on x) (lowest_passes both m (ltb→lt x m k)) in
      lowest_cong both f m (λ i l. same_test (both i) (f i) (and_left (f i) (on i)) (λ u. and_in (f i) (on i) u (h x i (ltb→lt x m k) l w))))
      (λ _. refl)

-- the choice, once the lowest that is on is known
pub on_found : (on f : ℕ → Bool) (m x : ℕ) → x ≡ lowest (λ i. f i && on i) m → x < m → x ≡ lowest_on on f m
unfolding lowest_on
on_found on f m x e l = rw (← e, true_T (ltb x m) (lt→ltb x m l))

pub on_other : (on f : ℕ → Bool) (m x : ℕ) → x ≡ lowest (λ i. f i && on i) m → m ≤ x → lowest f m ≡ lowest_on on f m
unfolding lowest_on
on_other on f m x e l = rw (← e, false_T (ltb x m) (not_T (ltb x m) (λ u. omega (arith, ltb→lt x m u))))

pub on_cong : (on f g : ℕ → Bool) (m : ℕ) → ((i : ℕ) → i < m → f i ≡ g i) → lowest_on on f m ≡ lowest_on on g m
unfolding lowest_on
on_cong on f g m h = rw (lowest_cong _ _ m (λ i l. ap (λ b. b && on i) (h i l)), lowest_cong f g m h)

-- the choice depends on the numbers below m alone
pub on_same : (on with f : ℕ → Bool) (m : ℕ) → ((i : ℕ) → i < m → on i ≡ with i) → lowest_on on f m ≡ lowest_on with f m
unfolding lowest_on
on_same on with f m h = rw (lowest_cong _ _ m (λ i l. ap (λ b. f i && b) (h i l)))

-- the lowest that is on is chosen by what comes first, whatever the state says is on
pub chooses_first : {S : Type 0} (on : S → ℕ → Bool) → Chooses (λ s. comes_first (on s)) (λ s. lowest_on (on s))
chooses_first on = record { passes = λ s. on_passes (on s); inside = λ s. on_inside (on s); first = λ s. on_first (on s) }
