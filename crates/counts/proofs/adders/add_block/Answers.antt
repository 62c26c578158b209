use Rattle.std.proofs.Common.{arith}
use Rattle.counts.proofs.Sums.{block-fits, block_added}
use Rattle.counts.proofs.adders.add_block.Goals as goal

pub carry_up-requires : goal.carry_up-requires
carry_up-requires c =
    block-fits c.requires (omega arith)
    c.add_eight-a.ensures c.add_eight-b.ensures c.add_eight-c.ensures c.add_eight-d.ensures c.add_three-e.ensures c.add_three-f.ensures

pub returns : goal.returns
returns c =
    block_added c.requires (omega arith)
    c.add_eight-a.ensures c.add_eight-b.ensures c.add_eight-c.ensures c.add_eight-d.ensures c.add_three-e.ensures c.add_three-f.ensures
    c.carry_up.ensures
