use Rattle.std.proofs.Common.{◌≡◌, ℕ, refl}
use borrow.Author.Tests.{ne_eqb}
use Rattle.refusal.specs.Told.{Refusal}
use Rattle.refusal.specs.Refusal.{none}
use Rattle.refusal.specs.declared.Refused.{Refused}
use Rattle.refusal.specs.Reasons.{reason_number, told_of}
use Rattle.refusal.proofs.Laws.{err_of, reason_not_0}
use Rattle.file_calls.specs.Outcomes.{Outcome, refused_outcome}
use Rattle.tipshare_c.specs.Order.{by_tips_outcome, ordered_by_tips_in}
use Rattle.tipshare_c.proofs.order_by_tips_call.order_by_tips_outcome.Goals as goal

-- a refusal tells no parts and no changes, and no refusal tells all
refused : (e : Refused) {r : Refusal} {changed : ℕ} (count : ℕ) → told_of e ≡ r → 0 ≡ changed → refused_outcome e 0 ≡ by_tips_outcome r count changed
unfolding by_tips_outcome
refused e count h k = rw (← h, ← k, ne_eqb (reason_number e.reason) 0 (reason_not_0 e.reason)) refl

accepted : {r : Refusal} {changed : ℕ} (count changes : ℕ) → none ≡ r → changes ≡ changed
    → ◌≡◌ {A = Outcome} (record { refusal = none; first = count; second = changes; third = 0 }) (by_tips_outcome r count changed)
unfolding by_tips_outcome
accepted count changes h k = rw (← h, ← k) refl

pub returns-in_err-changes-clause-outcome : goal.returns-in_err-changes-clause-outcome
unfolding ordered_by_tips_in
returns-in_err-changes-clause-outcome c =
    let e = c.in_err-changes.field-0.0 in
    rw (err_of c.from_residual.result e c.from_residual.ensures)
    (refused e _ c.in_err-changes.ensures.refusal c.in_err-changes.ensures.changes)

pub returns-clause-outcome : goal.returns-clause-outcome
unfolding ordered_by_tips_in
returns-clause-outcome c = accepted _ _ c.in_ok-changes.ensures.refusal c.in_ok-changes.ensures.changes
