use mathlib.Core.Path.{◌≡◌}
use Rattle.std.proofs.Common.{rules, Err}
use Rattle.file_calls.proofs.JuniorIn.{junior-in}
use Rattle.file_calls.proofs.Left.{junior_few}
use Rattle.file_calls.proofs.Stopped.{junior_read}
use Rattle.file_calls.proofs.CasesTold.{junior_told}
use Rattle.file_calls.proofs.junior_call.junior_in.Goals as goal

pub returns-in_err-lines : goal.returns-in_err-lines
returns-in_err-lines g c =
    let a = c.args in
    let e = c.in_err-lines.field-0.0 in
    let same : c.from_residual.result ≡ Err e = search rules in
    let (outcome, (plan, rule)) = junior_read a.file.now e c.in_err-lines.ensures.refusal a.plan.now in
    let few = junior_few a.file.now a.plan.now outcome in
    rw same (record { outcome = outcome; plan = plan; rule = rule; cases = junior_told a.file.now _ outcome; few = few })

pub returns-in_err-found : goal.returns-in_err-found
returns-in_err-found g c =
    let a = c.args in
    let e = c.in_err-found.field-0.0 in
    let same : c.from_residual-in_err-found.result ≡ Err e = search rules in
    let read = c.in_ok-lines.ensures in
    let told = c.in_err-found.ensures in
    let (outcome, (plan, rule)) = junior-in a.file.now read.refusal (λ _. (read.rack, read.quantities, read.sets))
    (λ _. c.in_ok-lines.lines.good) a.plan.now told.answer told.plan in
    let few = junior_few a.file.now a.plan.now outcome in
    rw same (record { outcome = outcome; plan = plan; rule = rule; cases = junior_told a.file.now _ outcome; few = few })

pub returns : goal.returns
returns g c =
    let a = c.args in
    let read = c.in_ok-lines.ensures in
    let told = c.in_ok-found.ensures in
    let (outcome, (plan, rule)) = junior-in a.file.now read.refusal (λ _. (read.rack, read.quantities, read.sets))
    (λ _. c.in_ok-lines.lines.good) a.plan.now told.answer told.plan in
    let few = junior_few a.file.now a.plan.now outcome in
    rw c.from.ensures (record { outcome = outcome; plan = plan; rule = rule; cases = junior_told a.file.now _ outcome; few = few })
