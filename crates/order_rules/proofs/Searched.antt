-- The refusal of a call that searches for an order: what is refused before the search, then 29 where there is no order.
use Prim.Native.Nat.{ℕ}
use native.Mathlib.Omega.{arith}
use mathlib.Core.Path.{◌≡◌, refl, sym, ap}
use mathlib.Core.Logic.{◌↔◌}
use mathlib.Core.Bool.{Bool, true, false, cond}
use mathlib.Core.List.{List}
use mathlib.Core.Option.{Option, none, some}
use borrow.Author.Tests.{eqb-true}
use Rattle.model.proofs.Tests.{cond_case, T_true}
use Rattle.refusal.specs.Told.{Refusal}
use Rattle.refusal.specs.Refusal as R
use Rattle.refusal.proofs.Laws.{or_none, or_next, when-none, when_taken}
use Rattle.order_rules.specs.Order.{Task, Obeys}
use Rattle.order_rules.specs.Call.{absent, NoneObeys}

-- what the number of each of two refusals is not, that of the first that applies is not
pub or_not : {n : ℕ} (first next : Refusal) → (first.number ≡ n → ⊥) → (next.number ≡ n → ⊥) → (R.or_else first next).number ≡ n → ⊥
unfolding R.or_else
or_not {n} first next a b = cond_case (λ (r : Refusal). r.number ≡ n → ⊥) (R.accepts first) (λ _. b) (λ _. a)

-- a number told at a place or not at all is no other number
pub number_only : {n : ℕ} (test : Bool) (number place : ℕ) → (number ≡ n → ⊥) → (0 ≡ n → ⊥)
    → (cond {A = Refusal} test (record { number = number; place = place }) R.none).number ≡ n → ⊥
number_only {n} test number place a b = cond_case (λ (r : Refusal). r.number ≡ n → ⊥) test (λ _. a) (λ _. b)

absent_none : (o : Option (List ℕ)) → absent o ≡ true → o ≡ none
absent_none none e = refl
absent_none (some order) e = absurd (T_true {b = false} e)

present_some : (o : Option (List ℕ)) → absent o ≡ false → (order : List ℕ) × (some order ≡ o)
present_some none e = absurd (T_true {b = false} (sym e))
present_some (some order) e = (order, refl)

module _ (given : Refusal) (answer : Option (List ℕ)) where
  abbrev last : Refusal
  last = R.when (absent answer) 29

  pub accepted_some : (R.or_else given last).number ≡ 0 → (given.number ≡ 0) × ((order : List ℕ) × (some order ≡ answer))
  accepted_some z =
      let (a, b) = or_none given last z in
      (a, present_some answer (when-none (absent answer) 29 (λ e. omega (arith, e)) b))

  pub told_none : (given.number ≡ 29 → ⊥) → (R.or_else given last).number ≡ 29 → (given.number ≡ 0) × (answer ≡ none)
  unfolding R.or_else
  told_none other = by (R.accepts given) refl
    where
      by : (b : Bool) → R.accepts given ≡ b → (cond b last given).number ≡ 29 → (given.number ≡ 0) × (answer ≡ none)
      by true e h = (eqb-true given.number 0 e, absent_none answer (when_taken (absent answer) 29 (omega (arith, h))))
      by false e h = absurd (other h)

  -- past what is given: 29 without an order, and none with one
  pub none_told : {d : Refusal} → d ≡ given → d.number ≡ 0 → none ≡ answer → R.refuse 29 ≡ R.or_else given last
  none_told e z h = or_next e _ z (rw (← h))

  pub one_told : {d : Refusal} → d ≡ given → d.number ≡ 0 → (order : List ℕ) → some order ≡ answer → R.none ≡ R.or_else given last
  one_told e z order h = or_next e _ z (rw (← h))

  pub none_obeys : (t : Task) → (given.number ≡ 29 → ⊥) → (given.number ≡ 0 → (answer ≡ none) ↔ ((other : List ℕ) → Obeys t other → ⊥))
      → NoneObeys t given (R.or_else given last)
  none_obeys t other exact = record {
    means = λ z. let (a, b) = told_none other z in (exact a).0 b;
    told = λ z f. sym (ap (λ (r : Refusal). r.number) (none_told {d = given} refl z (sym ((exact z).1 f))));
  }
