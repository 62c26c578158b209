use mathlib.Core.Path.{sym, ap, ◌∙◌}
use Rattle.refusal.specs.Told.{Refusal}
use Rattle.refusal.specs.Refusal.{refuse}
use Rattle.refusal.specs.Reasons.{refusal_of}
use Rattle.refusal.proofs.Laws.{refused_err, or_err, or_ok}
use Rattle.job.specs.Job.{read_refusal}
use Rattle.job.proofs.Good.{bad_refused}
use Rattle.job_read.proofs.reading.refused_by.Goals as goal

pub returns-in-Err : goal.returns-in-Err
unfolding read_refusal
returns-in-Err c = or_ok _ (ap refuse (sym c.args.file.good)) (or_err _ _ c.in-Err.ensures)

pub unwrap_err-requires : goal.unwrap_err-requires
unfolding read_refusal
unwrap_err-requires c =
    let file = c.args.file in
    refused_err _ (λ z. bad_refused file.bytes.now file.good c.requires
    (ap (λ (r : Refusal). r.number) (sym (or_ok _ (ap refuse (sym file.good)) (or_ok _ c.in_default.ensures c.check_total.ensures))) ∙ z))

pub returns : goal.returns
unfolding read_refusal
returns c =
    or_ok _ (ap refuse (sym c.args.file.good))
    (or_ok _ c.in_default.ensures (ap refusal_of (sym c.unwrap_err.ensures) ∙ c.check_total.ensures))
