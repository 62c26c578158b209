use mathlib.Core.Path.{refl, sym, ap, ◌∙◌}
use Rattle.refusal.specs.Refusal.{none, refuse}
use Rattle.refusal.proofs.Laws.{told_reason, reason_not_0}
use Rattle.call_refusals.proofs.Calls.{add_full, add-line, add_over}
use Rattle.call_refusals.proofs.add_refusal.Goals as goal

pub returns-then-quantities-eq-MOST_LINES : goal.returns-then-quantities-eq-MOST_LINES
returns-then-quantities-eq-MOST_LINES c = rw c.at.ensures (add_full none refl _ _ _ _ _ c.if-quantities-eq-MOST_LINES.true)

pub returns-in_err-check_line : goal.returns-in_err-check_line
returns-in_err-check_line c =
    let reason = c.in_err-check_line.field-0.0 in
    told_reason _ _ c.from_residual.ensures
    ∙ ap refuse c.in_err-check_line.ensures
    ∙ add-line none refl _ _ _ _ _ c.if-quantities-eq-MOST_LINES.false (λ z. reason_not_0 reason (c.in_err-check_line.ensures ∙ z))

pub returns : goal.returns
returns c =
    rw (c.total.ensures, c.from.ensures) at c.refuse_when.ensures
    ∙ add_over none refl _ _ _ _ _ c.if-quantities-eq-MOST_LINES.false (sym c.in_ok-check_line.ensures)
