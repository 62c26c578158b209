use Rattle.std.proofs.Common.{arith}
use Rattle.text.specs.Text.{ascii}
use Rattle.text.proofs.Buffer.{both}
use Rattle.report.specs.Report.{off_text}
use Rattle.report.proofs.put_off.Goals as goal

pub returns : goal.returns
unfolding off_text ascii
returns c =
    let names = both (omega arith) c.put_field-at.ensures c.put_word-at.ensures in
    both (omega arith) (both (omega arith) names c.put_tips-at.ensures) c.put_word.ensures
