use mathlib.Core.Path.{◌∙◌}
use Rattle.refusal.proofs.Laws.{told_err, or_err, or_ok}
use Rattle.line_calls.specs.Exact.{exact_refusal}
use Rattle.line_calls.proofs.exact_call.exact_refusal.Goals as goal

pub returns-in_err-plan_refusal : goal.returns-in_err-plan_refusal
unfolding exact_refusal
returns-in_err-plan_refusal c =
    told_err _ _ c.from_residual.ensures ∙ or_err _ _ c.in_err-plan_refusal.ensures

pub returns-in_err-refuse_when : goal.returns-in_err-refuse_when
unfolding exact_refusal
returns-in_err-refuse_when c =
    let many = rw c.count_named-named.ensures at c.in_err-refuse_when.ensures in
    told_err _ _ c.from_residual-in_err-refuse_when.ensures ∙ or_ok _ c.in_ok-plan_refusal.ensures (or_err _ _ many)

pub returns : goal.returns
unfolding exact_refusal
returns c =
    let few = rw c.count_named-named.ensures at c.in_ok-refuse_when.ensures in
    let short = rw (c.table_places.ensures, c.count_named-named.ensures) at c.refuse_when-2.ensures in
    or_ok _ c.in_ok-plan_refusal.ensures (or_ok _ few short)
