use mathlib.Core.Path.{refl, sym}
use native.Mathlib.Nat.{min-le_left}
use lib.Seq.{length-take-le}
use Rattle.file_report.proofs.Texts.{summary_none, summary_text}
use Rattle.file_report.proofs.Plans.{report_rule}
use Rattle.file_report.proofs.summarize.Goals as goal

pub returns-then-out-lt-ROOM-clause-text : goal.returns-then-out-lt-ROOM-clause-text
returns-then-out-lt-ROOM-clause-text c = rw (summary_none _ _ c.if-out-lt-ROOM.true) (record { size = refl; bytes = refl })

pub returns-then-out-lt-ROOM-clause-rule : goal.returns-then-out-lt-ROOM-clause-rule
returns-then-out-lt-ROOM-clause-rule c = report_rule _ _ _ _ _ (returns-then-out-lt-ROOM-clause-text c)

pub slice_bounds-write_file-end : goal.slice_bounds-write_file-end
slice_bounds-write_file-end c = sym (length-take-le _ _ (rw c.min-size.ensures (min-le_left _ _)))

pub returns-clause-text : goal.returns-clause-text
returns-clause-text c = rw (summary_text _ _ c.if-out-lt-ROOM.false c.min-size.ensures) c.write_file.ensures

pub returns-clause-rule : goal.returns-clause-rule
returns-clause-rule c = report_rule _ _ _ _ _ (returns-clause-text c)
