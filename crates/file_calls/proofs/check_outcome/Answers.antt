use mathlib.Core.Path.{◌≡◌}
use Rattle.std.proofs.Common.{rules, Err}
use Rattle.file_calls.proofs.Stopped.{check_read}
use Rattle.file_calls.proofs.ReadLines.{check-in}
use Rattle.file_calls.proofs.CasesTold.{check_told}
use Rattle.file_calls.proofs.check_outcome.Goals as goal

pub returns-in_err-lines : goal.returns-in_err-lines
returns-in_err-lines c =
    let a = c.args in
    let e = c.in_err-lines.field-0.0 in
    let same : c.from_residual.result ≡ Err e = search rules in
    let (outcome, rule) = check_read a.file.now e c.in_err-lines.ensures.refusal a.plan.now a.claim a.table.now in
    let told = check_told a.file.now a.plan.now a.claim a.table.now outcome in
    rw same (record { outcome = outcome; rule = rule; cases = told })

pub returns-in_err-check : goal.returns-in_err-check
returns-in_err-check c =
    let a = c.args in
    let e = c.in_err-check.field-0.0 in
    let same : c.from_residual-in_err-check.result ≡ Err e = search rules in
    let read = c.in_ok-lines.ensures in
    let (outcome, rule) =
    check-in a.file.now read.refusal (λ _. (read.rack, read.quantities, read.sets))
    (λ _. c.in_ok-lines.lines.good) a.plan.now a.claim a.table.now c.in_err-check.ensures.answer in
    let told = check_told a.file.now a.plan.now a.claim a.table.now outcome in
    rw same (record { outcome = outcome; rule = rule; cases = told })

pub returns : goal.returns
returns c =
    let a = c.args in
    let read = c.in_ok-lines.ensures in
    let (outcome, rule) =
    check-in a.file.now read.refusal (λ _. (read.rack, read.quantities, read.sets))
    (λ _. c.in_ok-lines.lines.good) a.plan.now a.claim a.table.now c.in_ok-check.ensures.answer in
    let told = check_told a.file.now a.plan.now a.claim a.table.now outcome in
    rw c.one.ensures (record { outcome = outcome; rule = rule; cases = told })
