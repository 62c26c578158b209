-- The answers to a call by tips on plain numbers.
use Prim.Native.Nat.{ℕ}
use mathlib.Core.Path.{◌≡◌, refl, sym, ◌∙◌}
use mathlib.Core.List.{List}
use lib.ListN.{length}
use Rattle.model.specs.Choice.{Mounted}
use Rattle.refusal.specs.Told.{Refusal}
use Rattle.refusal.specs.Refusal as R
use Rattle.refusal.proofs.Laws.{or_first, or_next, refused, accepted, number_not}
use Rattle.order_rules.proofs.TipCall.{tips_rule}
use Rattle.number_calls.specs.Numbers.{parts_in, rules_in, numbers_refusal}
use Rattle.placing.specs.ByTips.{PlacedByTips}
use Rattle.number_calls.specs.ByTips.{refusal_by_tips_in, buffer_by_tips_in, changes_by_tips_in, TipsRuleIn}

module _ (parts rules plan : List ℕ) (mounted : Mounted) (buffer : List ℕ) where
  pub record Answers (r : Refusal) (out : List ℕ) (changed : ℕ) : Type 0 where
    pub refusal : r ≡ refusal_by_tips_in parts rules plan mounted (length buffer)
    pub order : out ≡ buffer_by_tips_in parts rules plan mounted buffer
    pub changes : changed ≡ changes_by_tips_in parts rules plan mounted (length buffer)
    pub rule : TipsRuleIn parts rules plan mounted (length buffer) out r changed

  -- where the numbers are not four a part and two a rule
  pub misfit : {r : Refusal} → r ≡ numbers_refusal parts rules → (r.number ≡ 0 → ⊥) → Answers r buffer 0
  unfolding refusal_by_tips_in buffer_by_tips_in changes_by_tips_in
  misfit e n = record {
    refusal = or_first e _ n;
    order = sym (refused _ _ e n);
    changes = sym (refused _ _ e n);
    rule = λ z. absurd (number_not e n z);
  }

  module _ (passed : R.none ≡ numbers_refusal parts rules) where
    pub fit_answer : {r : Refusal} {out : List ℕ} {changed : ℕ} → PlacedByTips (parts_in parts) (rules_in rules) plan mounted buffer out r changed
        → Answers r out changed
    unfolding refusal_by_tips_in buffer_by_tips_in changes_by_tips_in
    fit_answer {r} {out} {changed} p = record {
      refusal = or_next passed _ refl p.refusal;
      order = p.order ∙ sym (accepted _ _ passed refl);
      changes = p.changes ∙ sym (accepted _ _ passed refl);
      rule = λ _. rw (p.refusal, p.order, p.changes) (tips_rule (parts_in parts) (rules_in rules) plan mounted buffer);
    }
