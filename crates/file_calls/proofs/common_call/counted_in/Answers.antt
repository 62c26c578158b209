use mathlib.Core.Path.{◌≡◌}
use Rattle.std.proofs.Common.{rules, Err}
use Rattle.file_calls.proofs.Stopped.{common_read}
use Rattle.file_calls.proofs.ReadLines.{common-in}
use Rattle.file_calls.proofs.common_call.counted_in.Goals as goal

pub returns-in_err-lines : goal.returns-in_err-lines
returns-in_err-lines g c =
    let e = c.in_err-lines.field-0.0 in
    let same : c.from_residual.result ≡ Err e = search rules in
    let (outcome, rule) = common_read c.args.file.now e c.in_err-lines.ensures.refusal in
    rw same (record { outcome = outcome; rule = rule })

pub returns : goal.returns
returns g c =
    let read = c.in_ok-lines.ensures in
    let (outcome, rule) =
    common-in c.args.file.now read.refusal (λ _. (read.rack, read.quantities, read.sets)) c.common.ensures.answer c.common.ensures.rule in
    rw c.counts_of.ensures (record { outcome = outcome; rule = rule })
