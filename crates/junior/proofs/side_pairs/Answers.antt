use Rattle.std.proofs.Common.{arith}
use Rattle.holder_rules.specs.Holders.{side_pairs}
use Rattle.junior.proofs.Sides.{side_few}
use Rattle.junior.proofs.side_pairs.Goals as goal

pub overflow_add-result : goal.overflow_add-result
unfolding side_pairs
overflow_add-result c =
    let few = side_few c.args.all c.args.on c.requires.on c.requires.all in
    record { fits = omega (arith, c.pairs_among.ensures, c.pairs_among-2.ensures, few) }

pub returns : goal.returns
unfolding side_pairs
returns c = rw (c.pairs_among.ensures, c.pairs_among-2.ensures)
