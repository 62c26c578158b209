use mathlib.Core.Path.{◌≡◌, refl}
use Rattle.std.proofs.Common.{rules, Err}
use Rattle.head.specs.OnHead.{on_head}
use Rattle.file_calls.proofs.Left.{exact_holds}
use Rattle.file_calls.proofs.Stopped.{exact_read}
use Rattle.file_calls.proofs.ReadLines.{exact-in}
use Rattle.file_calls.proofs.CasesTold.{exact_told}
use Rattle.file_calls.proofs.exact_call.exact_outcome.Goals as goal

pub returns-in_err-lines : goal.returns-in_err-lines
returns-in_err-lines c =
    let a = c.args in
    let file = a.file.now in
    let on = on_head a.mounted in
    let e = c.in_err-lines.field-0.0 in
    let same : c.from_residual.result ≡ Err e = search rules in
    let (outcome, (plan, table)) = exact_read file e c.in_err-lines.ensures.refusal on a.price a.plan.now a.table.now in
    let (rule, few) = exact_holds file on a.price a.plan.now a.table.now outcome plan in
    let told = exact_told file on a.price _ _ outcome in
    rw same (record { outcome = outcome; plan = plan; table = table; rule = rule; few = few; cases = told })

pub returns-in_err-laid : goal.returns-in_err-laid
returns-in_err-laid c =
    let a = c.args in
    let file = a.file.now in
    let on = on_head a.mounted in
    let e = c.in_err-laid.field-0.0 in
    let same : c.from_residual-in_err-laid.result ≡ Err e = search rules in
    let read = c.in_ok-lines.ensures in
    let laid = c.in_err-laid.ensures in
    let (outcome, (plan, table)) =
    exact-in file read.refusal (λ _. (read.rack, read.quantities, read.sets)) on refl a.price a.plan.now a.table.now
    laid.answer laid.plan laid.table in
    let (rule, few) = exact_holds file on a.price a.plan.now a.table.now outcome plan in
    let told = exact_told file on a.price _ _ outcome in
    rw same (record { outcome = outcome; plan = plan; table = table; rule = rule; few = few; cases = told })

pub returns : goal.returns
returns c =
    let a = c.args in
    let file = a.file.now in
    let on = on_head a.mounted in
    let read = c.in_ok-lines.ensures in
    let laid = c.in_ok-laid.ensures in
    let (outcome, (plan, table)) =
    exact-in file read.refusal (λ _. (read.rack, read.quantities, read.sets)) on refl a.price a.plan.now a.table.now
    laid.answer laid.plan laid.table in
    let (rule, few) = exact_holds file on a.price a.plan.now a.table.now outcome plan in
    let told = exact_told file on a.price _ _ outcome in
    rw c.from.ensures (record { outcome = outcome; plan = plan; table = table; rule = rule; few = few; cases = told })
