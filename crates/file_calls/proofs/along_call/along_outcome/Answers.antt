use mathlib.Core.Path.{◌≡◌, refl}
use Rattle.std.proofs.Common.{rules, Err}
use Rattle.head.specs.OnHead.{on_head}
use Rattle.file_calls.proofs.Left.{along_holds}
use Rattle.file_calls.proofs.Stopped.{along_read}
use Rattle.file_calls.proofs.ReadLines.{along-in}
use Rattle.file_calls.proofs.CasesTold.{along_told}
use Rattle.file_calls.proofs.along_call.along_outcome.Goals as goal

pub returns-in_err-lines : goal.returns-in_err-lines
returns-in_err-lines c =
    let a = c.args in
    let file = a.file.now in
    let e = c.in_err-lines.field-0.0 in
    let same : c.from_residual.result ≡ Err e = search rules in
    let (outcome, plan) = along_read file e c.in_err-lines.ensures.refusal (on_head a.mounted) a.plan.now in
    let (rule, few) = along_holds file (on_head a.mounted) a.plan.now outcome plan in
    rw same (record { outcome = outcome; plan = plan; rule = rule; few = few; cases = along_told file (on_head a.mounted) _ outcome })

pub returns-in_err-laid : goal.returns-in_err-laid
returns-in_err-laid c =
    let a = c.args in
    let file = a.file.now in
    let e = c.in_err-laid.field-0.0 in
    let same : c.from_residual-in_err-laid.result ≡ Err e = search rules in
    let read = c.in_ok-lines.ensures in
    let laid = c.in_err-laid.ensures in
    let (outcome, plan) =
    along-in file read.refusal (λ _. (read.rack, read.quantities, read.sets)) (on_head a.mounted) refl a.plan.now
    laid.answer laid.plan in
    let (rule, few) = along_holds file (on_head a.mounted) a.plan.now outcome plan in
    rw same (record { outcome = outcome; plan = plan; rule = rule; few = few; cases = along_told file (on_head a.mounted) _ outcome })

pub returns : goal.returns
returns c =
    let a = c.args in
    let file = a.file.now in
    let read = c.in_ok-lines.ensures in
    let laid = c.in_ok-laid.ensures in
    let (outcome, plan) =
    along-in file read.refusal (λ _. (read.rack, read.quantities, read.sets)) (on_head a.mounted) refl a.plan.now
    laid.answer laid.plan in
    let (rule, few) = along_holds file (on_head a.mounted) a.plan.now outcome plan in
    let told = along_told file (on_head a.mounted) _ outcome in
    rw c.from.ensures (record { outcome = outcome; plan = plan; rule = rule; few = few; cases = told })
