use Prim.Native.Nat.{◌+◌}
use mathlib.Core.Path.{refl, sym, ap, ap₂, ◌∙◌}
use mathlib.Core.List.{◌++◌}
use native.Mathlib.Omega.{arith}
use lib.ListN.{length}
use lib.Seq.{length-take-le}
use Rattle.refusal.specs.Told.{Refusal}
use Rattle.refusal.specs.Refusal.{none}
use Rattle.refusal.specs.Reasons.{told_of}
use Rattle.refusal.proofs.Laws.{err_of, reason_not_0}
use Rattle.call_refusals.specs.Calls.{write_refusal}
use Rattle.call_refusals.proofs.Calls.{write_none}
use Rattle.job.specs.Job.{rack_in, sets_in, quantities_in, paired, file_of}
use Rattle.job.specs.Header.{version_number}
use Rattle.job.proofs.Lines.{file_few}
use Rattle.line_calls.proofs.JobFile.{write-refused, write_accepted}
use Rattle.panel.specs.Files.{merge_of_read}
use Rattle.panel.proofs.BothFiles.{size_of_both, merge-stopped}
use Rattle.panel.proofs.files.merge_files.Goals as goal

pub returns-in_err-header : goal.returns-in_err-header
returns-in_err-header c =
    let a = c.args in
    let first = a.first.file.bytes.now in
    let second = a.second.file.bytes.now in
    let e = c.in_err-header.field-0.0 in
    let same = err_of _ e c.from_residual.ensures in
    let (answer, buffer) =
    merge-stopped first second a.out.now (told_of e) c.in_err-header.ensures.refusal (reason_not_0 e.reason) in
    rw same (record { answer = answer; buffer = buffer })

pub write_refusal-requires : goal.write_refusal-requires
write_refusal-requires c = c.in_ok-header.ensures.header.few-lines

pub returns-in_err-write_refusal : goal.returns-in_err-write_refusal
returns-in_err-write_refusal c =
    let a = c.args in
    let first = a.first.file.bytes.now in
    let second = a.second.file.bytes.now in
    let e = c.in_err-write_refusal.field-0.0 in
    let same = err_of _ e c.from_residual-in_err-write_refusal.ensures in
    let header = c.in_ok-header.header in
    let h = c.in_ok-header.ensures.header in
    let qs = quantities_in first ++ quantities_in second in
    let lines = sets_in first ++ sets_in second in
    let size = size_of_both first second h.count-is in
    let after = λ (r : Refusal). write_refusal r (version_number header.version) header.count (length a.out.now) in
    let decided = c.in_err-write_refusal.ensures ∙ ap after c.in_ok-header.ensures.refusal in
    let (answer, buffer) =
    write-refused (merge_of_read first second) (rack_in first) qs lines a.out.now decided h.version-is size (reason_not_0 e.reason) in
    rw same (record { answer = answer; buffer = buffer })

pub file_length-bytes-requires : goal.file_length-bytes-requires
file_length-bytes-requires c =
    let h = c.in_ok-header.header in
    omega (arith, file_few (version_number h.version) h.count c.in_ok-header.ensures.header.few-lines)

pub slice_bounds-put_files-end : goal.slice_bounds-put_files-end
slice_bounds-put_files-end c =
    omega (arith, c.file_length-bytes.ensures, (write_none none _ _ _ (ap (λ r. r.number) (sym c.in_ok-write_refusal.ensures))).1)

pub slice_bounds-put_files-end-2 : goal.slice_bounds-put_files-end-2
slice_bounds-put_files-end-2 c =
    let room = (write_none none _ _ _ (ap (λ r. r.number) (sym c.in_ok-write_refusal.ensures))).1 in
    sym (length-take-le _ _ (omega (arith, c.file_length-bytes.ensures, room)))

pub put_files-requires-clause-count : goal.put_files-requires-clause-count
put_files-requires-clause-count c =
    c.in_ok-header.ensures.header.count-is ∙ ap₂ ◌+◌ (sym c.args.first.file.header_is.count-is) (sym c.args.second.file.header_is.count-is)

pub put_files-requires-clause-few : goal.put_files-requires-clause-few
put_files-requires-clause-few c = c.in_ok-header.ensures.header.few-lines

pub put_files-requires-clause-out_len : goal.put_files-requires-clause-out_len
put_files-requires-clause-out_len c =
    let room = (write_none none _ _ _ (ap (λ r. r.number) (sym c.in_ok-write_refusal.ensures))).1 in
    length-take-le _ _ (omega (arith, c.file_length-bytes.ensures, room)) ∙ c.file_length-bytes.ensures

pub returns : goal.returns
returns c =
    let a = c.args in
    let first = a.first.file.bytes.now in
    let second = a.second.file.bytes.now in
    let header = c.in_ok-header.header in
    let h = c.in_ok-header.ensures.header in
    let qs = quantities_in first ++ quantities_in second in
    let lines = sets_in first ++ sets_in second in
    let size = size_of_both first second h.count-is in
    let after = λ (r : Refusal). write_refusal r (version_number header.version) header.count (length a.out.now) in
    let decided = c.in_ok-write_refusal.ensures ∙ ap after c.in_ok-header.ensures.refusal in
    let wrote = c.put_files.ensures ∙ ap₂ (λ v m. file_of v m (paired lines qs)) h.version-is h.rack-is in
    let (answer, buffer) =
    write_accepted (merge_of_read first second) (rack_in first) qs lines a.out.now decided h.version-is size refl c.file_length-bytes.ensures wrote in
    record { answer = answer; buffer = buffer }
