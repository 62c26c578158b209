use mathlib.Core.Path.{sym, ap, ◌∙◌}
use Rattle.refusal.specs.Refusal.{refuse}
use Rattle.refusal.proofs.Laws.{told_reason, reason_not_0}
use Rattle.job.specs.Job.{read_refusal}
use Rattle.job.proofs.Reading.{read_refused}
use Rattle.job.proofs.Good.{good_accepted}
use Rattle.job_read.proofs.ReadLines.{some_taken}
use Rattle.job_read.proofs.reading.open.Goals as goal

pub returns-in_err-opened-clause-refusal : goal.returns-in_err-opened-clause-refusal
returns-in_err-opened-clause-refusal c =
    let reason = c.in_err-opened.field-0.0 in
    let number = c.in_err-opened.ensures.refusal in
    told_reason _ _ c.from_residual.ensures ∙ ap refuse number ∙ sym (read_refused _ (λ z. reason_not_0 reason (number ∙ z)))

pub invariant_of-result : goal.invariant_of-result
invariant_of-result c =
    let (good, total) = some_taken _ c.in-Some.ensures in
    record { accepted = ap (λ r. r.number) (good_accepted _ c.in_ok-opened.opened.good good); placements_are = total }

pub returns-in-Some-clause-refusal : goal.returns-in-Some-clause-refusal
returns-in-Some-clause-refusal c =
    let (good, _) = some_taken _ c.in-Some.ensures in
    sym (good_accepted _ c.in_ok-opened.opened.good good) ∙ ap read_refusal c.in_ok-opened.ensures.same
