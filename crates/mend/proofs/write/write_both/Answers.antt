use Rattle.std.proofs.Common.{◌≡◌, ℕ, ◌+◌, ◌≤◌, List, ◌++◌, length, drop, ap, ap₂, ◌∙◌, arith}
use lib.ListN.{length-append}
use Rattle.text.proofs.Buffer.{both, printed}
use Rattle.job.specs.Job.{header_length, header_of, file_of, version_in, rack_in}
use Rattle.mend_rules.specs.Mending.{lines_kept_in, mended_file, mended_report, bytes_of_changes}
use Rattle.mend.specs.Mend.{kept_lines, line_changes, whole_report}
use Rattle.mend.proofs.Codes.{report_parts}
use Rattle.mend.proofs.Filled.{headed}
use Rattle.mend.proofs.Room.{mended_parts}
use Rattle.mend.proofs.write.write_both.Goals as goal

-- the room for the report, of its lines and of the file
parts : (file : List ℕ) (space : ℕ) → length (mended_report file) ≤ space
    → length (bytes_of_changes (line_changes file)) + length (whole_report file) ≤ space
parts file space h = omega (arith, h, ap length (report_parts file), length-append (bytes_of_changes (line_changes file)) (whole_report file))

pub put_lines-written-requires-clause-out_room : goal.put_lines-written-requires-clause-out_room
put_lines-written-requires-clause-out_room c = omega (arith, c.requires.out_room, mended_parts c.args.file.bytes.now)

pub put_lines-written-requires-clause-report_room : goal.put_lines-written-requires-clause-report_room
put_lines-written-requires-clause-report_room c = omega (arith, parts c.args.file.bytes.now _ c.requires.report_room)

pub put_header-requires : goal.put_header-requires
put_header-requires c = omega (arith, c.requires.out_room, mended_parts c.args.file.bytes.now, c.put_lines-written.auto.out)

pub put_whole-requires-clause-room : goal.put_whole-requires-clause-room
put_whole-requires-clause-room c =
    let written = c.put_lines-written in
    omega (arith, parts c.args.file.bytes.now _ c.requires.report_room, written.ensures.report.place, written.auto.report)

pub returns-clause-out : goal.returns-clause-out
unfolding mended_file file_of
returns-clause-out c =
    let out = c.args.out.now in
    let file = c.args.file in
    let bytes = file.bytes.now in
    let written = c.put_lines-written in
    let v = version_in bytes in
    let m = rack_in bytes in
    let n = length (lines_kept_in bytes) in
    let header : c.put_header.new.out ≡ header_of v m n ++ drop header_length written.new.out =
    c.put_header.ensures
    ∙ ap₂ (λ a b. header_of a b written.result.kept ++ drop header_length written.new.out) file.header_is.version-is file.header_is.rack-is
    ∙ ap (λ k. header_of v m k ++ drop header_length written.new.out) written.ensures.kept in
    headed v m n (kept_lines bytes) (omega (arith, c.requires.out_room, mended_parts bytes)) written.ensures.out header

pub returns-clause-report : goal.returns-clause-report
returns-clause-report c =
    let written = c.put_lines-written in
    rw (report_parts c.args.file.bytes.now) (printed (both (omega arith) written.ensures.report c.put_whole.ensures))
