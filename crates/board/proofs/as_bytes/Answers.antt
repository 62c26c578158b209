use Rattle.model.proofs.Lists.{all_get_d}
use Rattle.board.proofs.as_bytes.Goals as goal

pub returns-clause-bytes : goal.returns-clause-bytes
returns-clause-bytes c = all_get_d 0 c.args.quantities.now (λ i l. (c.type_inv.quantities i).fits)
