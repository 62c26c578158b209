-- The Junior on lines: what it answers and leaves, refused and accepted, and the rule of its plan.
use Prim.Native.Nat.{ℕ}
use mathlib.Core.Path.{◌≡◌, refl, ap, ◌∙◌}
use mathlib.Core.Logic.{◌↔◌}
use mathlib.Core.Bool.{Bool, true, false, cond, not}
use mathlib.Core.List.{List, ◌++◌}
use native.Mathlib.Omega.{arith}
use borrow.Author.Tests.{eqb-true, eqb-false}
use lib.ListN.{length, take, drop, take-append-drop}
use lib.Seq.{take_at}
use Rattle.std.specs.Prelude.{Option, Some, None}
use Rattle.model.specs.Plan.{pairs}
use Rattle.model.proofs.Tests.{T_true}
use Rattle.model.proofs.Valid.{valid_length}
use Rattle.placements.specs.Repeated.{repeated}
use Rattle.placements.specs.Good.{GoodLines}
use Rattle.refusal.specs.Told.{Refusal}
use Rattle.refusal.specs.Refusal.{none, refuse, accepts, when}
use Rattle.refusal.proofs.Laws.{or_first, or_next, or_same, refused, accepted, lent_refused, lent_accepted}
use Rattle.call_refusals.specs.Junior
use Rattle.call_refusals.proofs.Junior.{junior_none}
use Rattle.holder_rules.specs.Holders.{is_served, first_tip, second_tip, junior_plan, NoneOnTips}
use Rattle.holder_rules.proofs.Junior.{junior, unserved}
use Rattle.junior.specs.declared.Found.{Found}
use Rattle.junior.specs.Found.{found_of, plan_of}
use Rattle.line_calls.specs.Answers.{JuniorAnswer}
use Rattle.line_calls.specs.Junior.{junior_refusal, junior_of, junior_buffer, JuniorRule}
use Rattle.line_calls.proofs.Plans.{handed_out}

module _ (earlier : Refusal) (m : ℕ) (qs lines old : List ℕ) where
  -- what is asked before tips are sought
  abbrev pub asked : Refusal
  asked = Junior.junior_refusal earlier m (length lines) (length old)

  abbrev served : Bool
  served = is_served m (repeated qs lines)

  abbrev laid : List ℕ
  laid = junior_plan m qs lines

  -- the decision by the count is that by the lines
  pub by_lines : {n : ℕ} {d : Refusal} → d ≡ Junior.junior_refusal earlier m n (length old) → (earlier.number ≡ 0 → n ≡ length lines) → d ≡ asked
  unfolding Junior.junior_refusal
  by_lines e size = e ∙ or_same earlier (λ z. rw (size z) refl)

  -- the three clauses, for what the code answers and leaves
  abbrev Clauses : JuniorAnswer → List ℕ → Type 0
  Clauses r last =
      (r ≡ junior_of earlier m qs lines (length old))
      × ((last ≡ junior_buffer earlier m qs lines old) × JuniorRule asked.number qs lines last r.refusal.number r.pairs r.u r.v)

  -- an answer after a refusal, and after none
  module _ {d : Refusal} (e : d ≡ junior_refusal earlier m qs lines (length old)) where
    answer-refused : (d.number ≡ 0 → ⊥)
        → ◌≡◌ {A = JuniorAnswer} (record { refusal = d; pairs = 0; u = 0; v = 0 }) (junior_of earlier m qs lines (length old))
    unfolding junior_of
    answer-refused n =
        rw (e, refused (pairs (repeated qs laid)) 0 e n, refused (first_tip m qs lines) 0 e n, refused (second_tip m qs lines) 0 e n) refl

    answer_accepted : d.number ≡ 0
        → ◌≡◌ {A = JuniorAnswer} (record { refusal = d; pairs = pairs (repeated qs laid); u = first_tip m qs lines; v = second_tip m qs lines })
        (junior_of earlier m qs lines (length old))
    unfolding junior_of
    answer_accepted z =
        rw (e, accepted (pairs (repeated qs laid)) 0 e z, accepted (first_tip m qs lines) 0 e z, accepted (second_tip m qs lines) 0 e z) refl

  -- refused before tips are sought
  pub junior_refused : {d : Refusal} → d ≡ asked → (d.number ≡ 0 → ⊥) → Clauses (record { refusal = d; pairs = 0; u = 0; v = 0 }) old
  unfolding junior_refusal junior_buffer
  junior_refused {d} e n =
      let told = or_first e (when (not served) 31) n in (
        answer-refused told n,
        (
          lent_refused told (length lines) laid old n,
          record {
            plan = λ z. absurd (n z);
            tips = λ z. absurd (n z);
            most = λ z. absurd (n z);
            lowest = λ z. absurd (n z);
            refused = λ z. absurd (n (ap (λ r. r.number) e ∙ z));
          },
        ),
      )

  -- the tips are sought: the refusal is by whether some serve every line
  module _ (free : asked.number ≡ 0) (good : GoodLines m qs lines) where
    sought : {r : Refusal} → r ≡ when (not served) 31 → r ≡ junior_refusal earlier m qs lines (length old)
    unfolding junior_refusal
    sought e = or_next {d = asked} refl (when (not served) 31) free e

    -- 31 exactly where no valid plan is on one tip or two
    told_31 : (b : Bool) → served ≡ b → ((when (not b) 31).number ≡ 31) ↔ NoneOnTips lines
    told_31 true e = (λ h. absurd (omega (arith, h)), λ h. absurd ((unserved good).1 h (T_true e)))
    told_31 false e = (λ h. (unserved good).0 (λ t. rw e at t), λ h. refl)

    exact : {r : Refusal} → r ≡ when (not served) 31 → (r.number ≡ 31) ↔ NoneOnTips lines
    exact e = rw e (told_31 served refl)

    -- the tips that are found, with the plan's pairs
    found_is : {found : Found} → Some found ≡ found_of m qs lines
        → (served ≡ true) × (found ≡ record { pairs = pairs (repeated qs laid); u = first_tip m qs lines; v = second_tip m qs lines })
    unfolding found_of
    found_is {found} = by served refl
      where
        best : Found
        best = record { pairs = pairs (repeated qs laid); u = first_tip m qs lines; v = second_tip m qs lines }

        by : (b : Bool) → served ≡ b → Some found ≡ cond b (Some best) None → (served ≡ true) × (found ≡ best)
        by true t e = (t, cc)
        by false t e = absurd (cc)

    found_none : None ≡ found_of m qs lines → served ≡ false
    unfolding found_of
    found_none = by served refl _
      where
        by : (b : Bool) → served ≡ b → (best : Found) → None ≡ cond b (Some best) None → served ≡ false
        by true t best e = absurd (cc)
        by false t best e = t

    module _ {out : List ℕ} {n : ℕ} (size : n ≡ length lines) (plan : out ≡ plan_of m qs lines (take n old)) where
      pub junior_found : {found : Found} → Some found ≡ found_of m qs lines
          → Clauses (record { refusal = none; pairs = found.pairs; u = found.u; v = found.v }) (out ++ drop n old)
      unfolding plan_of junior_buffer
      junior_found {found} is =
          let (t, f) = found_is is in
          let told : none ≡ when (not served) 31 = rw t refl in
          let j = junior good (T_true t) in
          let p : out ≡ laid = plan ∙ rw t refl in
          let front = take_at laid (drop n old) (length lines) (valid_length j.own) in
          rw (f, p) (
            answer_accepted (sought told) refl,
            (
              rw size (lent_accepted (sought told) (length lines) laid old refl refl),
              record {
                plan = λ _. handed_out qs n size old (pairs (repeated qs laid)) j.own refl;
                tips = λ _. rw front j.tips;
                most = λ _. j.most;
                lowest = λ _. j.lowest;
                refused = λ _. exact told;
              },
            ),
          )

      pub junior_missed : None ≡ found_of m qs lines → Clauses (record { refusal = refuse 31; pairs = 0; u = 0; v = 0 }) (out ++ drop n old)
      unfolding plan_of junior_buffer
      junior_missed is =
          let t = found_none is in
          let told : refuse 31 ≡ when (not served) 31 = rw t refl in
          let n31 : 31 ≡ 0 → ⊥ = λ z. omega (arith, z) in
          let same : out ≡ take n old = plan ∙ rw t refl in
          let p : out ++ drop n old ≡ old = ap (λ x. x ++ drop n old) same ∙ take-append-drop n old in
          rw p (
            answer-refused (sought told) n31,
            (
              lent_refused (sought told) (length lines) laid old n31,
              record {
                plan = λ z. absurd (n31 z);
                tips = λ z. absurd (n31 z);
                most = λ z. absurd (n31 z);
                lowest = λ z. absurd (n31 z);
                refused = λ _. exact told;
              },
            ),
          )

  -- THE RULE of what is answered and left, for good lines
  abbrev pub RuleOf : Type 0
  RuleOf =
      let r = junior_of earlier m qs lines (length old) in
      JuniorRule asked.number qs lines (junior_buffer earlier m qs lines old) r.refusal.number r.pairs r.u r.v

  pub junior_rule : (earlier.number ≡ 0 → GoodLines m qs lines) → RuleOf
  junior_rule good = by (accepts asked) refl
    where
      of : {r : JuniorAnswer} {last : List ℕ} → Clauses r last → RuleOf
      of (answer, (buffer, rule)) = rw (answer, buffer) at rule

      by_found : asked.number ≡ 0 → GoodLines m qs lines → (found : Option Found) → found ≡ found_of m qs lines → RuleOf
      by_found z lines_good (Some found) e = of (junior_found z lines_good {n = length lines} refl refl e)
      by_found z lines_good None e = of (junior_missed z lines_good {n = length lines} refl refl e)

      by : (b : Bool) → accepts asked ≡ b → RuleOf
      by true e =
          let z = eqb-true asked.number 0 e in
          let lines_good = good (junior_none earlier m (length lines) (length old) z).0 in
          by_found z lines_good (found_of m qs lines) refl
      by false e = of (junior_refused {d = asked} refl (eqb-false asked.number 0 e))
