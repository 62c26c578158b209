use Rattle.std.proofs.Common.{arith}
use Rattle.text.specs.Text.{ascii}
use Rattle.text.proofs.Buffer.{both, printed}
use Rattle.text.proofs.Decimal.{decimal-short}
use Rattle.report.specs.Report.{refused_text}
use Rattle.report.proofs.write_refused.Goals as goal

pub put_field-at-requires : goal.put_field-at-requires
put_field-at-requires c = omega (arith, decimal-short 9 c.args.number (omega arith))

pub put_word-requires : goal.put_word-requires
put_word-requires c = omega (arith, decimal-short 9 c.args.number (omega arith))

pub returns : goal.returns
unfolding refused_text ascii
returns c = printed (both (omega arith) c.put_field-at.ensures c.put_word.ensures)
