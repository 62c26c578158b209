use mathlib.Core.Path.{refl, sym, ap, ap₂, ◌∙◌}
use native.Mathlib.Omega.{arith}
use lib.Seq.{length-take-le}
use Rattle.refusal.specs.Refusal.{none}
use Rattle.refusal.proofs.Laws.{err_of, reason_not_0}
use Rattle.job.specs.Job.{file_length}
use Rattle.job.specs.Header.{version_number}
use Rattle.job.proofs.Lines.{file_few}
use Rattle.call_refusals.proofs.Calls.{write_none}
use Rattle.line_calls.proofs.JobFile.{write-refused, write_accepted}
use Rattle.line_calls.proofs.write.Goals as goal

pub returns-in_err-write_refusal : goal.returns-in_err-write_refusal
returns-in_err-write_refusal c =
    let a = c.args in
    let e = c.in_err-write_refusal.field-0.0 in
    let same = err_of _ e c.from_residual.ensures in
    let (answer, buffer) =
    write-refused none a.lines.rack a.lines.quantities.now a.lines.sets.now a.out.now c.in_err-write_refusal.ensures
    c.version_for-version.ensures c.len-count.ensures (reason_not_0 e.reason) in
    rw same (record { answer = answer; buffer = buffer })

pub file_length-bytes-requires : goal.file_length-bytes-requires
file_length-bytes-requires c =
    rw c.len-count.ensures (omega (arith, file_few (version_number c.version_for-version.result) _ c.args.lines.good.few-lines))

pub slice_bounds-write_file-end : goal.slice_bounds-write_file-end
slice_bounds-write_file-end c =
    omega (arith, c.file_length-bytes.ensures, (write_none none _ _ _ (ap (λ r. r.number) (sym c.in_ok-write_refusal.ensures))).1)

pub slice_bounds-write_file-end-2 : goal.slice_bounds-write_file-end-2
slice_bounds-write_file-end-2 c =
    let room = (write_none none _ _ _ (ap (λ r. r.number) (sym c.in_ok-write_refusal.ensures))).1 in
    sym (length-take-le _ _ (omega (arith, c.file_length-bytes.ensures, room)))

pub write_file-requires-clause-out_len : goal.write_file-requires-clause-out_len
write_file-requires-clause-out_len c =
    let room = (write_none none _ _ _ (ap (λ r. r.number) (sym c.in_ok-write_refusal.ensures))).1 in
    length-take-le _ _ (omega (arith, c.file_length-bytes.ensures, room))
    ∙ c.file_length-bytes.ensures
    ∙ ap₂ file_length c.version_for-version.ensures c.len-count.ensures

pub returns : goal.returns
returns c =
    let a = c.args in
    let (answer, buffer) =
    write_accepted none a.lines.rack a.lines.quantities.now a.lines.sets.now a.out.now c.in_ok-write_refusal.ensures
    c.version_for-version.ensures c.len-count.ensures refl c.file_length-bytes.ensures c.write_file.ensures in
    record { answer = answer; buffer = buffer }
