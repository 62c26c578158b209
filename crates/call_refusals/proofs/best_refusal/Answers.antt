use mathlib.Core.Path.{◌∙◌}
use Rattle.refusal.proofs.Laws.{told_err, or_err, or_ok}
use Rattle.call_refusals.specs.Calls.{best_refusal}
use Rattle.call_refusals.proofs.best_refusal.Goals as goal

pub returns-in_err-plan_refusal : goal.returns-in_err-plan_refusal
unfolding best_refusal
returns-in_err-plan_refusal c =
    told_err _ _ c.from_residual.ensures ∙ or_err _ _ c.in_err-plan_refusal.ensures

pub returns-in_err-refuse_when : goal.returns-in_err-refuse_when
unfolding best_refusal
returns-in_err-refuse_when c =
    told_err _ _ c.from_residual-in_err-refuse_when.ensures ∙ or_ok _ c.in_ok-plan_refusal.ensures (or_err _ _ c.in_err-refuse_when.ensures)

pub returns : goal.returns
unfolding best_refusal
returns c = or_ok _ c.in_ok-plan_refusal.ensures (or_ok _ c.in_ok-refuse_when.ensures c.run_refusal.ensures)
