-- The answer to a call for the windows on plain numbers.
use Prim.Native.Nat.{ℕ}
use mathlib.Core.Path.{◌≡◌, refl, sym, ◌∙◌}
use mathlib.Core.List.{List}
use Rattle.refusal.specs.Told.{Refusal}
use Rattle.refusal.specs.Refusal as R
use Rattle.refusal.proofs.Laws.{refused, accepted}
use Rattle.part_windows.specs.Call.{room, WindowsAnswer}
use Rattle.part_windows.proofs.Ruling.{windows_rule}
use Rattle.number_calls.specs.Numbers.{parts_in, rules_in, numbers_refusal, order_in}
use Rattle.number_calls.specs.Windows.{first_after_in, last_after_in, WindowsRuleIn}
use Rattle.number_calls.proofs.Numbered.{fit_in}

module _ (parts rules first last : List ℕ) where
  pub misfit_buffers : {r : Refusal} → r ≡ numbers_refusal parts rules → (r.number ≡ 0 → ⊥)
      → (first ≡ first_after_in parts rules first last) × (last ≡ last_after_in parts rules first last)
  unfolding first_after_in last_after_in
  misfit_buffers e n = (sym (refused _ _ e n), sym (refused _ _ e n))

  -- of numbers that are four a part and two a rule, the answer for the parts and rules that they stand for
  pub record AnswerIn (new_first new_last : List ℕ) (r : Refusal) : Type 0 where
    pub refusal : r ≡ order_in parts rules (room first last)
    pub firsts : new_first ≡ first_after_in parts rules first last
    pub lasts : new_last ≡ last_after_in parts rules first last
    pub rule : WindowsRuleIn parts rules (room first last) new_first new_last r

  pub fit_answer : R.none ≡ numbers_refusal parts rules → {new_first new_last : List ℕ} {r : Refusal}
      → WindowsAnswer (parts_in parts) (rules_in rules) first last new_first new_last r → AnswerIn new_first new_last r
  unfolding first_after_in last_after_in
  fit_answer passed x = record {
    refusal = fit_in parts rules (room first last) passed x.refusal;
    firsts = x.firsts ∙ sym (accepted _ _ passed refl);
    lasts = x.lasts ∙ sym (accepted _ _ passed refl);
    rule = λ _. windows_rule x;
  }
