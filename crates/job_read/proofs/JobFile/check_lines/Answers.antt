use mathlib.Core.Path.{◌≡◌, refl, sym, ap, ap₂, ◌∙◌}
use mathlib.Core.Bool.{true, false}
use native.Mathlib.Omega.{arith}
use borrow.Author.Tests.{eq-eqb, ne_eqb, le-ltb}
use Rattle.std.proofs.Common.{◌≤◌, ◌<◌, eqb, length, get_or}
use Rattle.refusal.specs.Refusal.{scan}
use Rattle.refusal.specs.Reasons.{reason_number}
use Rattle.refusal.proofs.Laws.{reason_not_0, scan-at}
use Rattle.model.proofs.Fails.{fails_next, fails_end}
use Rattle.job.specs.Job.{rack_in, count_in, line_number, line_numbers}
use Rattle.job.proofs.Reading.{bad_in, length_numbers, number-there}
use Rattle.job_read.proofs.JobFile.check_lines.Goals as goal

pub returns-in-Err : goal.returns-in-Err
returns-in-Err c =
    let file = c.args.self.bytes.now in
    let i = c.loop-i.i in
    let reason = c.in-Err.reason in
    let numbers = line_numbers file in
    let here : i < count_in file = omega (arith, c.args.self.header_is.count-is) in
    let number : reason_number reason ≡ get_or numbers i 0 =
    c.in-Err.ensures
    ∙ ap (λ m. line_number m c.line-set.result.0 c.line-set.result.1) c.args.self.header_is.rack-is
    ∙ ap₂ (line_number (rack_in file)) c.line-set.ensures.set c.line-set.ensures.quantity
    ∙ number-there file i here in
    let fail = sym (ne_eqb (get_or numbers i 0) 0 (λ z. reason_not_0 reason (number ∙ z))) in
    let there : i < length numbers = omega (arith, length_numbers file, here) in
    let bad : bad_in file ≡ i = fails_next (λ n. eqb n 0) numbers i false there fail c.loop-i.invariant in
    let told : record { number = reason_number reason; place = i } ≡ scan (λ n. eqb n 0) (λ k. get_or numbers k 0) numbers =
    rw (number, ← bad) (sym (scan-at (λ n. eqb n 0) (λ k. get_or numbers k 0) numbers (omega (arith, bad, there)))) in
    rw c.at.ensures told

pub loop-i-preserved : goal.loop-i-preserved
loop-i-preserved c =
    let file = c.args.self.bytes.now in
    let i = c.loop-i.i in
    let here : i < count_in file = omega (arith, c.args.self.header_is.count-is) in
    let number : 0 ≡ get_or (line_numbers file) i 0 =
    c.in_default.ensures
    ∙ ap (λ m. line_number m c.line-set.result.0 c.line-set.result.1) c.args.self.header_is.rack-is
    ∙ ap₂ (line_number (rack_in file)) c.line-set.ensures.set c.line-set.ensures.quantity
    ∙ number-there file i here in
    let pass = sym (eq-eqb (get_or (line_numbers file) i 0) 0 (sym number)) in
    fails_next (λ n. eqb n 0) (line_numbers file) i true (omega (arith, length_numbers file, here)) pass c.loop-i.invariant

pub returns : goal.returns
unfolding scan
returns c =
    let file = c.args.self.bytes.now in
    let past : length (line_numbers file) ≤ c.loop-i.i = omega (arith, length_numbers file, c.args.self.header_is.count-is) in
    let bad : bad_in file ≡ c.loop-i.i = fails_end (λ n. eqb n 0) (line_numbers file) c.loop-i.i past c.loop-i.invariant in
    rw (le-ltb (bad_in file) (length (line_numbers file)) (omega (arith, bad, past))) refl
