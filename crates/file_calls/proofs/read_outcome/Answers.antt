use mathlib.Core.Path.{◌≡◌, refl}
use Rattle.std.proofs.Common.{rules, Err}
use Rattle.refusal.proofs.Laws.{reason_not_0, refused}
use Rattle.job.specs.Job.{rack_in, count_in}
use Rattle.file_calls.specs.Calls.{read_in}
use Rattle.file_calls.proofs.CasesTold.{header_told}
use Rattle.file_calls.proofs.ReadBoard.{read_rule}
use Rattle.file_calls.proofs.read_outcome.Goals as goal

pub returns-in_err-opened-clause-outcome : goal.returns-in_err-opened-clause-outcome
unfolding read_in
returns-in_err-opened-clause-outcome c =
    let file = c.args.file.now in
    let e = c.in_err-opened.field-0.0 in
    let same : c.from_residual.result ≡ Err e = search rules in
    let told = c.in_err-opened.ensures.refusal in
    let n = reason_not_0 e.reason in
    rw (same, refused (rack_in file) 0 told n, refused (count_in file) 0 told n, told) refl

pub returns-in_err-opened-clause-rule : goal.returns-in_err-opened-clause-rule
returns-in_err-opened-clause-rule c = read_rule c.args.file.now (returns-in_err-opened-clause-outcome c)

pub returns-clause-outcome : goal.returns-clause-outcome
unfolding read_in
returns-clause-outcome c =
    let told = c.in_ok-opened.ensures in
    let header = c.in_ok-opened.opened.file.header_is in
    rw (← told.refusal, header.rack-is, header.count-is, told.same) refl

pub returns-in_err-opened-clause-cases : goal.returns-in_err-opened-clause-cases
returns-in_err-opened-clause-cases c = header_told c.args.file.now (returns-in_err-opened-clause-outcome c)

pub returns-clause-cases : goal.returns-clause-cases
returns-clause-cases c = header_told c.args.file.now (returns-clause-outcome c)

pub returns-clause-rule : goal.returns-clause-rule
returns-clause-rule c = read_rule c.args.file.now (returns-clause-outcome c)
