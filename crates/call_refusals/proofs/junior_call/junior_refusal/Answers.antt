use mathlib.Core.Path.{◌∙◌}
use Rattle.refusal.specs.Refusal.{or_else}
use Rattle.refusal.proofs.Laws.{told_err, or_err, or_ok}
use Rattle.call_refusals.specs.Calls.{plan_refusal}
use Rattle.call_refusals.specs.Junior.{junior_refusal}
use Rattle.call_refusals.proofs.junior_call.junior_refusal.Goals as goal

pub returns-in_err-refuse_when : goal.returns-in_err-refuse_when
unfolding junior_refusal or_else
returns-in_err-refuse_when c =
    told_err _ _ c.from_residual.ensures ∙ or_err _ _ c.in_err-refuse_when.ensures

pub returns-in_err-refuse_when-2 : goal.returns-in_err-refuse_when-2
unfolding junior_refusal or_else
returns-in_err-refuse_when-2 c =
    told_err _ _ c.from_residual-in_err-refuse_when-2.ensures ∙ or_ok _ c.in_ok-refuse_when.ensures (or_err _ _ c.in_err-refuse_when-2.ensures)

pub returns : goal.returns
unfolding junior_refusal plan_refusal or_else
returns c = or_ok _ c.in_ok-refuse_when.ensures (or_ok _ c.in_ok-refuse_when-2.ensures c.plan_refusal.ensures)
