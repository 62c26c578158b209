-- What the calls on plain numbers refuse is what their cases tell.
use Prim.Native.Nat.{ℕ, ◌%◌}
use mathlib.Core.Path.{◌≡◌, sym, subst}
use mathlib.Core.Logic.{◌↔◌, ◌⊎◌, inl, inr, ⊎_elim}
use mathlib.Core.Bool.{not, ◌&&◌}
use mathlib.Core.List.{List}
use lib.Dec.{T, T_not, not_T, eqb, eqb→eq}
use lib.ListN.{length}
use Rattle.model.specs.Choice.{Mounted}
use Rattle.model.proofs.Tests.{not_and, and_left, and_right, eqb_T}
use Rattle.refusal.specs.Told.{Refusal}
use Rattle.refusal.specs.declared.Reason.TheVariants.{BrokenRecord}
use Rattle.cases.specs.Cases.{Told}
use Rattle.cases.proofs.Laws.{told_or, told_when}
use Rattle.order_rules.specs.Call.{order_refusal}
use Rattle.order_rules.specs.TipCall.{refusal_by_tips}
use Rattle.order_cases.proofs.Told.{order_told, tip_order_told}
use Rattle.number_calls.specs.Numbers.{parts_in, rules_in, numbers_refusal, order_in}
use Rattle.number_calls.specs.ByTips.{refusal_by_tips_in}
use Rattle.number_calls.specs.Cases.{broken_cases, numbers_cases, numbers_by_tips_cases}

-- one of two numbers is not 0 exactly where not both are
broken_iff : (x y : ℕ) → T (not (eqb x 0 && eqb y 0)) ↔ ((x ≡ 0 → ⊥) ⊎ (y ≡ 0 → ⊥))
broken_iff x y = (
  λ t. ⊎_elim (λ n. inl (λ e. T_not (eqb x 0) n (eqb_T x 0 e))) (λ n. inr (λ e. T_not (eqb y 0) n (eqb_T y 0 e)))
      (not_and (eqb x 0) (eqb y 0) t),
  λ o. not_T (eqb x 0 && eqb y 0) (λ t.
      ⊎_elim (λ n. n (eqb→eq x 0 (and_left (eqb x 0) (eqb y 0) t))) (λ n. n (eqb→eq y 0 (and_right (eqb x 0) (eqb y 0) t))) o),
)

broken_told : (parts rules : List ℕ) → Told (broken_cases parts rules) (numbers_refusal parts rules)
unfolding numbers_refusal
broken_told parts rules =
    told_when BrokenRecord (not (eqb (length parts % 4) 0 && eqb (length rules % 2) 0)) (broken_iff (length parts % 4) (length rules % 2))

pub numbers_told : (parts rules : List ℕ) (room : ℕ) {r : Refusal} → r ≡ order_in parts rules room → Told (numbers_cases parts rules room) r
unfolding order_in
numbers_told parts rules room e =
    subst (Told (numbers_cases parts rules room)) (sym e)
    (told_or (numbers_refusal parts rules) (order_refusal (parts_in parts) (rules_in rules) room) (broken_cases parts rules) _
    (broken_told parts rules) (λ _. order_told (parts_in parts) (rules_in rules) room))

-- and by tips
module _ (plan : List ℕ) (mounted : Mounted) (room : ℕ) {r : Refusal} where
  pub numbers_by_tips_told : (parts rules : List ℕ) → r ≡ refusal_by_tips_in parts rules plan mounted room
      → Told (numbers_by_tips_cases parts rules plan mounted room) r
  unfolding refusal_by_tips_in
  numbers_by_tips_told parts rules e =
      subst (Told (numbers_by_tips_cases parts rules plan mounted room)) (sym e)
      (told_or (numbers_refusal parts rules) (refusal_by_tips (parts_in parts) (rules_in rules) plan mounted room) (broken_cases parts rules) _
      (broken_told parts rules) (λ _. tip_order_told (parts_in parts) (rules_in rules) room plan mounted))
