use Rattle.std.proofs.Common.{ap, take, ◌∙◌}
use Rattle.refusal.proofs.Laws.{told_err, or_err, or_ok}
use Rattle.refusal.specs.Reasons.{refused_at}
use Rattle.order_rules.specs.TipCall.{tips_refusal}
use Rattle.placing.proofs.Readied.{tips_scan}
use Rattle.placing.proofs.by_tips.refuse_tips.Goals as goal

pub returns-in_err-refuse_when : goal.returns-in_err-refuse_when
unfolding tips_refusal
returns-in_err-refuse_when c = told_err c.from_residual.result _ c.from_residual.ensures ∙ or_err _ _ c.in_err-refuse_when.ensures

pub returns-in_err-refuse_at : goal.returns-in_err-refuse_at
unfolding tips_refusal
returns-in_err-refuse_at c =
    let scanned = ap (λ o. refused_at o 3) c.first_bad_tip.ensures ∙ tips_scan (take c.args.n c.args.plan.now) in
    told_err c.from_residual-in_err-refuse_at.result _ c.from_residual-in_err-refuse_at.ensures
    ∙ or_ok _ c.in_ok-refuse_when.ensures (or_err _ _ (c.in_err-refuse_at.ensures ∙ scanned))

pub returns : goal.returns
unfolding tips_refusal
returns c =
    let scanned = ap (λ o. refused_at o 3) c.first_bad_tip.ensures ∙ tips_scan (take c.args.n c.args.plan.now) in
    or_ok _ c.in_ok-refuse_when.ensures (or_ok _ (c.in_ok-refuse_at.ensures ∙ scanned) (rw c.is_head_ok.ensures at c.refuse_when-2.ensures))
