use Rattle.std.proofs.Common.{arith}
use Rattle.text.proofs.Buffer.{both}
use Rattle.text.proofs.Decimal.{decimal_step}
use Rattle.text.proofs.+put_digits.Goals as goal

pub returns : goal.returns
returns t c = rw (decimal_step c.args.x c.if-x-lt10.false) (both (omega arith) c.put_digits-at.ensures c.put_digit-2.ensures)
