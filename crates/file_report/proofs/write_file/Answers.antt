use mathlib.Core.Path.{refl}
use Rattle.refusal.proofs.Laws.{reason_not_0}
use Rattle.file_report.proofs.Texts.{text_accepted, text_refused}
use Rattle.file_report.proofs.write_file.Goals as goal

pub returns-in-Ok : goal.returns-in-Ok
returns-in-Ok c =
    let read = c.in-Ok.ensures in
    rw (text_accepted c.args.file.now read.refusal refl read.rack read.sets read.quantities) c.write_lines.ensures

pub returns-in-Err : goal.returns-in-Err
returns-in-Err c =
    let written = rw c.number.ensures at c.write_refused.ensures in
    rw (text_refused c.args.file.now c.in-Err.ensures.refusal (reason_not_0 c.in-Err.refused.reason)) written
