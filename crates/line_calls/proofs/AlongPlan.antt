-- The plan along the list: what it answers and leaves, refused and accepted; the rule of its plan, and its few pairs.
use Prim.Native.Nat.{ℕ, ◌≤◌, zero-le}
use mathlib.Core.Path.{◌≡◌, refl, sym, ◌∙◌}
use mathlib.Core.Bool.{Bool, true, false}
use mathlib.Core.List.{List, ◌++◌}
use borrow.Author.Tests.{eqb-true, eqb-false}
use lib.ListN.{length, drop}
use lib.Seq.{take_at}
use Rattle.model.specs.Limits.{most_pairs}
use Rattle.model.specs.Plan.{pairs}
use Rattle.model.specs.Choice.{Mounted}
use Rattle.model.proofs.Valid.{valid_length}
use Rattle.placements.specs.Repeated.{repeated}
use Rattle.placements.specs.Good.{GoodLines}
use Rattle.placements.proofs.Bound.{pairs_bound}
use Rattle.refusal.specs.Told.{Refusal}
use Rattle.refusal.specs.Refusal.{accepts}
use Rattle.refusal.proofs.Laws.{or_same, refused, accepted, lent_refused, lent_accepted}
use Rattle.call_refusals.specs.Calls.{plan_refusal}
use Rattle.call_refusals.proofs.Calls.{plan_none}
use Rattle.along.specs.Along.{fewest, plan_along}
use Rattle.along.specs.Counts.{counts_of}
use Rattle.along.specs.declared.AlongCounts.{AlongCounts}
use Rattle.along.proofs.Along.{rack_tips, along_rule}
use Rattle.line_calls.specs.Answers.{AlongAnswer}
use Rattle.line_calls.specs.Along.{along_of, along_buffer, AlongRule}

module _ (earlier : Refusal) (mounted : Mounted) (qs lines old : List ℕ) where
  abbrev laid : List ℕ
  laid = plan_along mounted lines

  abbrev decision : Refusal
  decision = plan_refusal earlier (length lines) (length old)

  -- the two clauses, for what the code answers and leaves
  abbrev Clauses : AlongAnswer → List ℕ → Type 0
  Clauses r last = (r ≡ along_of earlier mounted qs lines (length old)) × (last ≡ along_buffer earlier mounted lines old)

  module _ {n : ℕ} {d : Refusal} (by_count : d ≡ plan_refusal earlier n (length old)) (size : earlier.number ≡ 0 → n ≡ length lines) where
    -- the decision by the count is that by the lines
    e : d ≡ decision
    unfolding plan_refusal
    e = by_count ∙ or_same earlier (λ z. rw (size z) refl)

    pub along_refused : (d.number ≡ 0 → ⊥) → Clauses (record { refusal = d; changes = 0; pairs = 0 }) old
    unfolding along_of along_buffer
    along_refused f = (
      rw (e, refused (fewest mounted lines) 0 e f, refused (pairs (repeated qs laid)) 0 e f) refl,
      lent_refused e (length lines) laid old f,
    )

    pub along_accepted : d.number ≡ 0 → n ≡ length lines → {x : AlongCounts} {out : List ℕ} → x ≡ counts_of mounted qs lines → out ≡ laid
        → Clauses (record { refusal = d; changes = x.changes; pairs = x.pairs }) (out ++ drop n old)
    unfolding along_of along_buffer counts_of
    along_accepted z s q o = (
      rw (e, q, accepted (fewest mounted lines) 0 e z, accepted (pairs (repeated qs laid)) 0 e z) refl,
      rw s (lent_accepted e (length lines) laid old z o),
    )

  -- THE RULE of what is answered and left, and few pairs, for good lines
  module _ {m : ℕ} (given : earlier.number ≡ 0 → GoodLines m qs lines) where
    abbrev RuleOf : AlongAnswer → List ℕ → Type 0
    RuleOf r last = AlongRule mounted qs lines last r.refusal.number r.changes r.pairs × (r.pairs ≤ most_pairs)

    of-refused : (decision.number ≡ 0 → ⊥) → RuleOf (record { refusal = decision; changes = 0; pairs = 0 }) old
    of-refused f = (record { fewest = λ z. absurd (f z); counted = λ z. absurd (f z) }, zero-le)

    of_accepted : decision.number ≡ 0 → GoodLines m qs lines
        → RuleOf (record { refusal = decision; changes = fewest mounted lines; pairs = pairs (repeated qs laid) }) (laid ++ drop (length lines) old)
    of_accepted z good =
        let rule = along_rule mounted (rack_tips good.most good.domains) in
        let size = valid_length rule.valid in
        let front = take_at laid (drop (length lines) old) (length lines) size in
        (record { fewest = λ _. rw front rule; counted = λ _. rw front refl }, pairs_bound qs laid (good.same ∙ sym size) good.few)

    pub along_holds : RuleOf (along_of earlier mounted qs lines (length old)) (along_buffer earlier mounted lines old)
    unfolding counts_of
    along_holds = by (accepts decision) refl
      where
        by : (b : Bool) → accepts decision ≡ b → RuleOf (along_of earlier mounted qs lines (length old)) (along_buffer earlier mounted lines old)
        by true t =
            let z = eqb-true decision.number 0 t in
            let (answer, buffer) = along_accepted {d = decision} refl (λ _. refl) z refl {x = counts_of mounted qs lines} refl refl in
            rw (← answer, ← buffer) (of_accepted z (given (plan_none earlier (length lines) (length old) z).0))
        by false t =
            let f = eqb-false decision.number 0 t in
            let (answer, buffer) = along_refused {d = decision} refl (λ _. refl) f in
            rw (← answer, ← buffer) (of-refused f)
