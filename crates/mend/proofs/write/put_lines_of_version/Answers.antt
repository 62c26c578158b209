use Rattle.std.proofs.Common.{◌+◌, length, cond, refl, sym, ap, ap₂, ◌∙◌, arith}
use Rattle.job.specs.Job.{bytes_of_lines, rack_in}
use Rattle.job.specs.Header.{version_number}
use Rattle.mend_rules.specs.Mending.{kept, changes, lines_kept_in, bytes_of_changes}
use Rattle.mend_rules.proofs.Files.{read_few}
use Rattle.mend.proofs.Filled.{fill_start, fill_room, fill_next}
use Rattle.mend.proofs.Pass.{pass_start, pass_end, pass_next, kept_next, lines_next, report_next}
use Rattle.mend.proofs.Room.{lines_room, report_room}
use Rattle.mend.proofs.One.{one_or_none}
use Rattle.mend.proofs.write.put_lines_of_version.Goals as goal

pub loop-i-init : goal.loop-i-init
unfolding kept changes bytes_of_lines bytes_of_changes
loop-i-init c =
    let running = c.new-running in
    let file = c.args.file in
    record {
      passed = pass_start file.bytes.now running.result.rack file.count running.result.total
          (running.ensures.rack ∙ file.header_is.rack-is) file.count_is running.ensures.total;
      out = fill_start _ _;
      report = fill_start _ _;
      kept = refl;
      kept_few = omega arith;
    }

pub put_kept-at-requires-clause-room : goal.put_kept-at-requires-clause-room
put_kept-at-requires-clause-room c =
    let file = c.args.file in
    let at = c.loop-i in
    let line = c.line-line in
    let v = version_number file.header.version in
    let same = ap (λ w. length (bytes_of_lines w (lines_kept_in file.bytes.now))) file.header_is.version-is in
    fill_room at.invariant.out _ _
    (lines_next file.bytes.now _ _ at.i at.running.total line.result.set line.result.quantity at.invariant.passed (omega arith)
    line.ensures.set line.ensures.quantity v)
    (omega (arith, c.requires.out_room, lines_room file.bytes.now (at.i + 1) v, same))

pub put_codes-told-requires-clause-room : goal.put_codes-told-requires-clause-room
put_codes-told-requires-clause-room c =
    let file = c.args.file.bytes.now in
    let at = c.loop-i in
    let line = c.line-line in
    fill_room at.invariant.report _ _
    (report_next file _ _ at.i at.running.total line.result.set line.result.quantity at.invariant.passed (omega arith)
    line.ensures.set line.ensures.quantity)
    (omega (arith, c.requires.report_room, report_room file (at.i + 1)))

pub overflow_add-kept : goal.overflow_add-kept
overflow_add-kept c =
    omega (arith, c.args.file.count_is, read_few c.args.file.bytes.now, c.from-kept.ensures, (one_or_none c.step-step.result.kept).1)

pub loop-i-preserved : goal.loop-i-preserved
loop-i-preserved c =
    let file = c.args.file in
    let bytes = file.bytes.now in
    let at = c.loop-i in
    let line = c.line-line in
    let next = c.step-step in
    let v = version_number file.header.version in
    let same = ap (λ w. length (bytes_of_lines w (lines_kept_in bytes))) file.header_is.version-is in
    record {
      passed = pass_next bytes _ _ at.i at.running.total line.result.set line.result.quantity at.invariant.passed (omega arith)
          line.ensures.set line.ensures.quantity next.result.next.rack next.result.next.total next.ensures.rack next.ensures.total;
      out = fill_next at.invariant.out _ _
          (lines_next bytes _ _ at.i at.running.total line.result.set line.result.quantity at.invariant.passed (omega arith)
          line.ensures.set line.ensures.quantity v)
          (omega (arith, c.requires.out_room, lines_room bytes (at.i + 1) v, same)) c.put_kept-at.ensures (omega arith);
      report = fill_next at.invariant.report _ _
          (report_next bytes _ _ at.i at.running.total line.result.set line.result.quantity at.invariant.passed (omega arith)
          line.ensures.set line.ensures.quantity)
          (omega (arith, c.requires.report_room, report_room bytes (at.i + 1))) c.put_codes-told.ensures (omega arith);
      kept = ap₂ ◌+◌ at.invariant.kept (c.from-kept.ensures ∙ (one_or_none next.result.kept).0 ∙ ap (λ b. cond b 1 0) next.ensures.kept)
          ∙ sym (kept_next bytes _ _ at.i at.running.total line.result.set line.result.quantity at.invariant.passed (omega arith)
          line.ensures.set line.ensures.quantity);
      kept_few = omega (arith, c.from-kept.ensures, (one_or_none next.result.kept).1);
    }

pub returns-clause-out : goal.returns-clause-out
returns-clause-out c =
    let file = c.args.file in
    let at = c.loop-i in
    rw (file.header_is.version-is, pass_end file.bytes.now _ _ at.i at.running.total at.invariant.passed (omega arith)) at at.invariant.out.put

pub returns-clause-report : goal.returns-clause-report
returns-clause-report c =
    let at = c.loop-i in
    rw (pass_end c.args.file.bytes.now _ _ at.i at.running.total at.invariant.passed (omega arith)) at at.invariant.report.put

pub returns-clause-kept : goal.returns-clause-kept
returns-clause-kept c =
    let file = c.args.file.bytes.now in
    let at = c.loop-i in
    at.invariant.kept ∙ ap (λ l. length (kept (rack_in file) 0 l)) (pass_end file _ _ at.i at.running.total at.invariant.passed (omega arith))
