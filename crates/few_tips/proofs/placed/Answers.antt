use Rattle.few_tips.proofs.Product.{times_digit}
use Rattle.few_tips.proofs.placed.Goals as goal

pub returns : goal.returns
returns c = rw (c.from.ensures, c.from-2.ensures) (times_digit c.args.quantity c.args.set c.args.tip)
