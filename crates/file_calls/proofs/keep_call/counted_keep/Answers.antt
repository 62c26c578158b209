use mathlib.Core.Path.{◌≡◌, refl, sym, ap, subst}
use mir.Syntax.{w32}
use mir.Val.{to_z, of_z}
use lib.Seq.{length-take-le}
use Rattle.std.proofs.Common.{rules, Err, pos}
use Rattle.refusal.specs.Refusal.{none}
use Rattle.job_read.proofs.ReadLines.{first_good, given_read}
use Rattle.line_calls.proofs.KeepWithin.{keep_bits}
use Rattle.file_calls.proofs.ReadLines.{same_lines}
use Rattle.file_calls.proofs.KeptFile.{kept-lines, good-kept, margin-refused, write-refused, kept-written}
use Rattle.file_calls.proofs.Stopped.{keep_read}
use Rattle.file_calls.proofs.keep_call.counted_keep.Goals as goal

pub returns-in_err-read : goal.returns-in_err-read
returns-in_err-read c =
    let a = c.args in
    let e = c.in_err-read.field-0.0 in
    let same : c.from_residual.result ≡ Err (record { refused = e; margin = pos 0 }) = search rules in
    let (outcome, out) = keep_read a.file.now e c.in_err-read.ensures.refusal a.k a.out.now in
    rw same (record { outcome = outcome; out = out })

pub slice_bounds-sets-end : goal.slice_bounds-sets-end
slice_bounds-sets-end c = (given_read c.in_ok-read.ensures.lines c.in_ok-read.ensures.refusal).room refl

pub slice_bounds-sets-end-2 : goal.slice_bounds-sets-end-2
slice_bounds-sets-end-2 c = sym (length-take-le _ _ ((given_read c.in_ok-read.ensures.lines c.in_ok-read.ensures.refusal).room refl))

pub slice_bounds-quantities-end : goal.slice_bounds-quantities-end
slice_bounds-quantities-end c = (given_read c.in_ok-read.ensures.lines c.in_ok-read.ensures.refusal).quantity_room refl

pub slice_bounds-quantities-end-2 : goal.slice_bounds-quantities-end-2
slice_bounds-quantities-end-2 c = sym (length-take-le _ _ ((given_read c.in_ok-read.ensures.lines c.in_ok-read.ensures.refusal).quantity_room refl))

pub keep-requires : goal.keep-requires
keep-requires c = first_good c.in_ok-read.ensures.lines (ap (λ r. r.number) (sym c.in_ok-read.ensures.refusal))

pub returns-in_err-margin : goal.returns-in_err-margin
returns-in_err-margin c =
    let a = c.args in
    let e = c.in_err-margin.field-0.0 in
    let same : c.from_residual-in_err-margin.result ≡ Err e = search rules in
    let read = c.in_ok-read.ensures in
    let good = first_good read.lines (ap (λ r. r.number) (sym read.refusal)) in
    let (outcome, out) =
    margin-refused a.file.now read.refusal (λ _. good) (λ _. same_lines read.lines) a.k a.out.now e c.in_err-margin.ensures.answer in
    rw same (record { outcome = outcome; out = out })

pub invariant_of-kept : goal.invariant_of-kept
invariant_of-kept c =
    let read = c.in_ok-read.ensures in
    let good = first_good read.lines (ap (λ r. r.number) (sym read.refusal)) in
    let kept = c.in_ok-margin.ensures in
    record { good = rw (kept-lines none (λ _. good) c.args.k kept.answer refl kept.sets) (good-kept none (λ _. good) c.args.k kept.answer refl) }

pub returns-in_err-bytes : goal.returns-in_err-bytes
returns-in_err-bytes c =
    let a = c.args in
    let e = c.in_err-bytes.field-0.0 in
    let same : c.from_residual-in_err-bytes.result ≡ Err (record { refused = e; margin = pos 0 }) = search rules in
    let read = c.in_ok-read.ensures in
    let good = first_good read.lines (ap (λ r. r.number) (sym read.refusal)) in
    let kept = c.in_ok-margin.ensures in
    let all = kept-lines none (λ _. good) a.k kept.answer refl kept.sets in
    let written = c.in_err-bytes.ensures in
    let (outcome, out) =
    write-refused a.file.now read.refusal (λ _. good) (λ _. same_lines read.lines) a.k a.out.now kept.answer (λ _. all) e
    written.answer written.buffer in
    rw same (record { outcome = outcome; out = out })

pub returns : goal.returns
returns c =
    let a = c.args in
    let read = c.in_ok-read.ensures in
    let good = first_good read.lines (ap (λ r. r.number) (sym read.refusal)) in
    let kept = c.in_ok-margin.ensures in
    let all = kept-lines none (λ _. good) a.k kept.answer refl kept.sets in
    let written = c.in_ok-bytes.ensures in
    let (outcome, out) =
    kept-written a.file.now read.refusal (λ _. good) (λ _. same_lines read.lines) a.k a.out.now kept.answer (λ _. all) c.in_ok-bytes.bytes
    written.answer written.buffer in
    let margin = ap (λ r. r.margin) kept.answer in
    let bits = subst (λ y. to_z w32 (of_z w32 y) ≡ y) (sym margin) (keep_bits none a.k (λ _. good) c.ranges.k.fits) in
    rw (c.twos_complement.ensures, bits) (record { outcome = outcome; out = out })
