use mathlib.Core.Path.{◌∙◌}
use Rattle.refusal.specs.Refusal.{or_else}
use Rattle.refusal.proofs.Laws.{told_err, or_err, or_ok}
use Rattle.panel.specs.Panel.{merge_refusal}
use Rattle.panel.proofs.merge_lines.merge_refusal.Goals as goal

pub returns-in_err-refuse_when : goal.returns-in_err-refuse_when
unfolding merge_refusal or_else
returns-in_err-refuse_when c = told_err _ _ c.from_residual.ensures ∙ or_err _ _ c.in_err-refuse_when.ensures

pub returns-in_err-refuse_when-2 : goal.returns-in_err-refuse_when-2
unfolding merge_refusal or_else
returns-in_err-refuse_when-2 c =
    told_err _ _ c.from_residual-in_err-refuse_when-2.ensures ∙ or_ok _ c.in_ok-refuse_when.ensures (or_err _ _ c.in_err-refuse_when-2.ensures)

pub returns : goal.returns
unfolding merge_refusal or_else
returns c = or_ok _ c.in_ok-refuse_when.ensures (or_ok _ c.in_ok-refuse_when-2.ensures c.refuse_when-3.ensures)
