use mathlib.Core.Path.{◌≡◌, refl}
use Rattle.std.proofs.Common.{rules, Err}
use Rattle.head.specs.OnHead.{on_head}
use Rattle.file_calls.proofs.Left.{quick_few}
use Rattle.file_calls.proofs.Stopped.{quick_read}
use Rattle.file_calls.proofs.ReadLines.{quick-in}
use Rattle.file_calls.proofs.CasesTold.{quick_told}
use Rattle.file_calls.proofs.quick_in.Goals as goal

pub returns-in_err-lines : goal.returns-in_err-lines
returns-in_err-lines g c =
    let a = c.args in
    let e = c.in_err-lines.field-0.0 in
    let same : c.from_residual.result ≡ Err e = search rules in
    let (outcome, (plan, rule)) = quick_read a.file.now e c.in_err-lines.ensures.refusal (on_head a.mounted) a.plan.now in
    let told = quick_told a.file.now (on_head a.mounted) _ outcome in
    rw same (record { outcome = outcome; plan = plan; rule = rule; few = quick_few a.file.now (on_head a.mounted) _ outcome; cases = told })

pub returns-in_err-pairs : goal.returns-in_err-pairs
returns-in_err-pairs g c =
    let a = c.args in
    let e = c.in_err-pairs.field-0.0 in
    let same : c.from_residual-in_err-pairs.result ≡ Err e = search rules in
    let read = c.in_ok-lines.ensures in
    let laid = c.in_err-pairs.ensures in
    let (outcome, (plan, rule)) =
    quick-in a.file.now read.refusal (λ _. (read.rack, read.quantities, read.sets)) (on_head a.mounted) refl a.plan.now
    laid.answer laid.plan laid.rule in
    let told = quick_told a.file.now (on_head a.mounted) _ outcome in
    rw same (record { outcome = outcome; plan = plan; rule = rule; few = quick_few a.file.now (on_head a.mounted) _ outcome; cases = told })

pub returns : goal.returns
returns g c =
    let a = c.args in
    let read = c.in_ok-lines.ensures in
    let laid = c.in_ok-pairs.ensures in
    let (outcome, (plan, rule)) =
    quick-in a.file.now read.refusal (λ _. (read.rack, read.quantities, read.sets)) (on_head a.mounted) refl a.plan.now
    laid.answer laid.plan laid.rule in
    let told = quick_told a.file.now (on_head a.mounted) _ outcome in
    let few = quick_few a.file.now (on_head a.mounted) _ outcome in
    rw (c.one.ensures, c.from.ensures) (record { outcome = outcome; plan = plan; rule = rule; few = few; cases = told })
