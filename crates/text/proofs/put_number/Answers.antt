use Rattle.std.proofs.Common.{arith}
use Rattle.text.proofs.Buffer.{both}
use Rattle.text.proofs.Decimal.{decimal-two, decimal-three}
use Rattle.text.proofs.put_number.Goals as goal

pub returns-then-tens-lt10 : goal.returns-then-tens-lt10
returns-then-tens-lt10 c =
    rw (decimal-two c.args.x (omega arith) (omega arith))
    (both (omega arith) c.put_digit-at.ensures c.put_digit-then-tens-lt10.ensures)

pub returns-then-tens-lt100 : goal.returns-then-tens-lt100
returns-then-tens-lt100 c =
    let upper = both (omega arith) c.put_digit-at-then-tens-lt100.ensures c.put_digit-at-then-tens-lt100-2.ensures in
    rw (decimal-three c.args.x (omega arith) (omega arith)) (both (omega arith) upper c.put_digit-then-tens-lt100.ensures)
