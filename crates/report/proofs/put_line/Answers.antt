use Rattle.std.proofs.Common.{arith}
use Rattle.text.specs.Text.{ascii}
use Rattle.text.proofs.Buffer.{both}
use Rattle.report.specs.Report.{line_text}
use Rattle.report.proofs.put_line.Goals as goal

pub returns : goal.returns
unfolding line_text ascii
returns c =
    let quick = both (omega arith) c.put_field-at.ensures c.put_field-at-2.ensures in
    both (omega arith) (both (omega arith) quick c.put_best-at.ensures) c.put_word.ensures
