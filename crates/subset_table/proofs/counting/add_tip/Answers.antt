use Rattle.std.proofs.Common.{◌+◌, ◌*◌, ◌-◌, ◌<◌, length, arith}
use lib.Pow.{pow_pos}
use Rattle.subset_table.proofs.Adding.{next_block, blocks_more, summing_all}
use Rattle.subset_table.proofs.counting.add_tip.Goals as goal

pub add_half-requires : goal.add_half-requires
add_half-requires c = next_block c.requires c.loop-start.invariant c.loop-start-test.true

pub loop-start-smaller : goal.loop-start-smaller
loop-start-smaller c =
    let l = c.loop-start in
    let smaller : length c.add_half.new.counts - (l.start + 2 * c.set_count.result) < length l.counts - l.start =
    omega (arith, c.set_count.ensures, pow_pos c.args.t, c.add_half.ensures.size, c.loop-start-test.true) in
    smaller

pub loop-start-preserved : goal.loop-start-preserved
loop-start-preserved c = rw c.set_count.ensures (blocks_more c.requires c.loop-start.invariant c.add_half.ensures)

pub returns : goal.returns
returns c =
    let l = c.loop-start in
    summing_all l.invariant.summed (omega (arith, c.loop-start-test.false, l.invariant.summed.size))
