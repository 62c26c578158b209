use Rattle.std.proofs.Common.{◌≡◌, ap, ◌∙◌, not, rules}
use Rattle.refusal.specs.Refusal.{when}
use Rattle.refusal.specs.Reasons.{refusal_of, told_of}
use Rattle.refusal.proofs.Laws.{or_err, or_ok}
use Rattle.checking.specs.Checking.{check_refusal}
use Rattle.checking.proofs.check_plan.Goals as goal

pub returns-in_err-claim_refusal : goal.returns-in_err-claim_refusal
unfolding check_refusal
returns-in_err-claim_refusal c =
    let e : refusal_of c.from_residual.result ≡ told_of c.in_err-claim_refusal.field-0.0 = search rules in
    e ∙ or_err _ _ c.in_err-claim_refusal.ensures

pub returns : goal.returns
unfolding check_refusal
returns c =
    or_ok _ c.in_ok-claim_refusal.ensures (c.refuse_when.ensures ∙ ap (λ b. when (not b) 33) c.table_fits-fits.ensures)
