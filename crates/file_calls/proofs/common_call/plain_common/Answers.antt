use mathlib.Core.Path.{◌≡◌, ap, ◌∙◌}
use native.Mathlib.Omega.{arith}
use Prim.Native.Nat.{◌-◌}
use Rattle.std.proofs.Common.{rules, Err}
use Rattle.job.specs.Job.{version_in}
use Rattle.job.proofs.Reading.{read_good}
use Rattle.file_calls.proofs.Stopped.{common_read}
use Rattle.file_calls.proofs.CommonFile.{most_few, counted-in}
use Rattle.file_calls.proofs.common_call.plain_common.Goals as goal

pub returns-in_err-opened : goal.returns-in_err-opened
returns-in_err-opened c =
    let e = c.in_err-opened.field-0.0 in
    let same : c.from_residual.result ≡ Err e = search rules in
    let (outcome, rule) = common_read c.args.file.now e c.in_err-opened.ensures.refusal in
    rw same (record { outcome = outcome; rule = rule })

pub count_tips-planes-requires : goal.count_tips-planes-requires
count_tips-planes-requires c = ap version_in c.in_ok-opened.ensures.same ∙ c.requires.plain

pub common_by-found-requires-clause-rack : goal.common_by-found-requires-clause-rack
common_by-found-requires-clause-rack c =
    let opened = c.in_ok-opened.opened in
    omega (arith, opened.file.header_is.rack-is, (read_good opened.file.bytes.now opened.accepted).most)

pub common_by-found-requires-clause-n : goal.common_by-found-requires-clause-n
common_by-found-requires-clause-n c =
    let opened = c.in_ok-opened.opened in
    rw (opened.file.header_is.rack-is, opened.placements_are) (most_few opened.file.bytes.now opened.accepted c.count_tips-planes.ensures)

pub returns : goal.returns
returns c =
    let opened = c.in_ok-opened.opened in
    let same = c.in_ok-opened.ensures.same in
    let rack = opened.file.header_is.rack-is in
    let found = c.common_by-found.result in
    let told = c.common_by-found.ensures in
    let (outcome, rule) =
    counted-in opened.file.bytes.now opened.accepted c.count_tips-planes.ensures (rw rack at told.top)
    (told.off ∙ ap (λ n. n - found.top) opened.placements_are) (rw rack at told.tips) same in
    rw c.counts_of.ensures (record { outcome = outcome; rule = rule })
