use Rattle.std.proofs.Common.{arith}
use Rattle.text.proofs.Buffer.{both}
use Rattle.text.proofs.put_field.Goals as goal

pub returns : goal.returns
returns c = both (omega arith) c.put_word-at.ensures c.put_number.ensures
