use Rattle.counts.proofs.Digits.{full_adder}
use Rattle.counts.proofs.adders.add_three.Goals as goal

pub returns : goal.returns
returns c = record { sum = full_adder c.args.a c.args.b c.args.c }
