use Rattle.std.proofs.Common.{arith}
use Rattle.text.specs.Text.{ascii}
use Rattle.text.proofs.Buffer.{both}
use Rattle.report.specs.Report.{head_text}
use Rattle.report.proofs.put_head.Goals as goal

pub returns : goal.returns
unfolding head_text ascii
returns c = both (omega arith) (both (omega arith) c.put_field-at.ensures c.put_field-at-2.ensures) c.put_word.ensures
