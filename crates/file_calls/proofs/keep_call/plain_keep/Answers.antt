use mathlib.Core.Path.{◌≡◌, sym, ap, ◌∙◌}
use native.Mathlib.Omega.{arith}
use lib.IntN.{pos}
use lib.Seq.{length-take-le}
use Rattle.std.proofs.Common.{rules, Ok, Err}
use Rattle.job.specs.Job.{version_in}
use Rattle.job.proofs.Lines.{file_few}
use Rattle.job.proofs.Reading.{read_good}
use Rattle.refusal.specs.Refusal.{none}
use Rattle.call_refusals.proofs.Calls.{write_none}
use Rattle.file_calls.proofs.Stopped.{keep_read}
use Rattle.file_calls.proofs.KeptPlain.{few_all, told, stopped, no-room, kept, bits}
use Rattle.file_calls.proofs.keep_call.plain_keep.Goals.{After-bound_by-bound}
use Rattle.file_calls.proofs.keep_call.plain_keep.Goals as goal

pub returns-in_err-opened : goal.returns-in_err-opened
returns-in_err-opened c =
    let a = c.args in
    let e = c.in_err-opened.field-0.0 in
    let same : c.from_residual.result ≡ Err (record { refused = e; margin = pos 0 }) = search rules in
    let (outcome, out) = keep_read a.file.now e c.in_err-opened.ensures.refusal a.k a.out.now in
    rw same (record { outcome = outcome; out = out })

pub count_tips-planes-requires : goal.count_tips-planes-requires
count_tips-planes-requires c = ap version_in c.in_ok-opened.ensures.same ∙ c.requires.plain

pub bound_by-bound-requires-clause-rack : goal.bound_by-bound-requires-clause-rack
bound_by-bound-requires-clause-rack c =
    let opened = c.in_ok-opened.opened in
    omega (arith, opened.file.header_is.rack-is, (read_good opened.file.bytes.now opened.accepted).most)

pub bound_by-bound-requires-clause-n : goal.bound_by-bound-requires-clause-n
bound_by-bound-requires-clause-n c =
    let opened = c.in_ok-opened.opened in
    omega (arith, opened.placements_are, (few_all opened.file.bytes.now opened.accepted c.count_tips-planes.ensures).1)

pub bound_by-bound-requires-clause-top : goal.bound_by-bound-requires-clause-top
bound_by-bound-requires-clause-top c =
    let opened = c.in_ok-opened.opened in
    rw (opened.file.header_is.rack-is, opened.placements_are) (few_all opened.file.bytes.now opened.accepted c.count_tips-planes.ensures).0

pub returns-in_err-margin : goal.returns-in_err-margin
returns-in_err-margin c =
    let a = c.args in
    let opened = c.in_ok-opened.opened in
    let file = opened.file.bytes.now in
    let counted = c.count_tips-planes.ensures in
    let margin = rw (opened.file.header_is.rack-is, opened.placements_are) at c.bound_by-bound.ensures.margin in
    let u = c.in_err-margin.field-0.0 in
    let p = told file opened.accepted counted a.k c.ranges.k.fits margin (Err u) c.in_err-margin.ensures.refusal c.in_err-margin.ensures.margin in
    let same : c.from_residual-in_err-margin.result ≡ Err u = search rules in
    let (outcome, out) = stopped file opened.accepted counted a.k c.ranges.k.fits a.out.now c.in_ok-opened.ensures.same u p in
    rw same (record { outcome = outcome; out = out })

pub returns-in_err-write_refusal : goal.returns-in_err-write_refusal
returns-in_err-write_refusal c =
    let a = c.args in
    let opened = c.in_ok-opened.opened in
    let file = opened.file.bytes.now in
    let counted = c.count_tips-planes.ensures in
    let margin = rw (opened.file.header_is.rack-is, opened.placements_are) at c.bound_by-bound.ensures.margin in
    let w = c.in_err-write_refusal.field-0.0 in
    let p = told file opened.accepted counted a.k c.ranges.k.fits margin (Ok c.in_ok-margin.margin)
    c.in_ok-margin.ensures.refusal c.in_ok-margin.ensures.margin in
    let plain = ap version_in c.in_ok-opened.ensures.same ∙ c.requires.plain in
    let same : c.from_residual-in_err-write_refusal.result ≡ Err (record { refused = w; margin = pos 0 }) = search rules in
    let (outcome, out) =
    no-room file opened.accepted counted a.k c.ranges.k.fits a.out.now c.in_ok-opened.ensures.same plain p opened.file.header_is.count-is w
    c.in_err-write_refusal.ensures in
    rw same (record { outcome = outcome; out = out })

pub file_length-bytes-requires : goal.file_length-bytes-requires
file_length-bytes-requires c =
    let header = c.in_ok-opened.opened.file.header in
    omega (arith, file_few 1 header.count c.in_ok-opened.opened.file.few_lines)

pub slice_bounds-put_kept-end : goal.slice_bounds-put_kept-end
slice_bounds-put_kept-end c =
    omega (arith, c.file_length-bytes.ensures, (write_none none _ _ _ (ap (λ r. r.number) (sym c.in_ok-write_refusal.ensures))).1)

pub slice_bounds-put_kept-end-2 : goal.slice_bounds-put_kept-end-2
slice_bounds-put_kept-end-2 c =
    let room = (write_none none _ _ _ (ap (λ r. r.number) (sym c.in_ok-write_refusal.ensures))).1 in
    sym (length-take-le _ _ (omega (arith, c.file_length-bytes.ensures, room)))

pub put_kept-requires-clause-out_len : goal.put_kept-requires-clause-out_len
put_kept-requires-clause-out_len c =
    let room = (write_none none _ _ _ (ap (λ r. r.number) (sym c.in_ok-write_refusal.ensures))).1 in
    length-take-le _ _ (omega (arith, c.file_length-bytes.ensures, room)) ∙ c.file_length-bytes.ensures

pub returns : goal.returns
returns c =
    let a = c.args in
    let opened = c.in_ok-opened.opened in
    let file = opened.file.bytes.now in
    let counted = c.count_tips-planes.ensures in
    let bound = c.bound_by-bound.ensures in
    let margin = rw (opened.file.header_is.rack-is, opened.placements_are) at bound.margin in
    let tips = rw (opened.file.header_is.rack-is, opened.placements_are) at bound.tips in
    let p = told file opened.accepted counted a.k c.ranges.k.fits margin (Ok c.in_ok-margin.margin)
    c.in_ok-margin.ensures.refusal c.in_ok-margin.ensures.margin in
    let plain = ap version_in c.in_ok-opened.ensures.same ∙ c.requires.plain in
    let lines = opened.file.header_is.count-is in
    let same = c.in_ok-opened.ensures.same in
    let back = bits file opened.accepted counted a.k c.ranges.k.fits a.out.now same plain p lines in
    let (outcome, out) =
    kept file opened.accepted counted a.k c.ranges.k.fits a.out.now same plain p lines back tips c.in_ok-write_refusal.ensures
    c.file_length-bytes.ensures c.put_kept.ensures in
    rw (c.twos_complement.ensures, back) (record { outcome = outcome; out = out })
