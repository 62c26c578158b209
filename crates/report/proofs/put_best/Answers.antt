use Rattle.std.proofs.Common.{arith}
use Rattle.text.proofs.Buffer.{both}
use Rattle.report.specs.Report.{best_text}
use Rattle.report.proofs.put_best.Goals as goal

pub returns-in-None : goal.returns-in-None
unfolding best_text
returns-in-None c = rw c.in-None.is (both (omega arith) c.put_word-at.ensures c.put_word.ensures)
