use Rattle.std.proofs.Common.{arith, ◌≡◌, ◌+◌, ◌*◌, ◌/◌, length, take, drop, get_or, []}
use Rattle.counts.proofs.Blocks.{get_or-chunks, block-occ, part-fits, part_added}
use Rattle.counts.proofs.adders.add_all.Goals as goal

pub add_block-requires : goal.add_block-requires
add_block-requires c =
    let lines = c.args.lines.now in
    let i = c.loop-block.block-index in
    let block : get_or c.as_chunks.result.0.now i [] ≡ take 32 (drop (32 * i) lines)
    = rw c.as_chunks.ensures.front (get_or-chunks (length lines / 32) i lines (omega (arith, c.as_chunks.ensures.front_len))) in
    rw block (part-fits c.requires c.loop-block.invariant (32 * (i + 1)) (block-occ lines i))

pub loop-block-preserved : goal.loop-block-preserved
loop-block-preserved c =
    let lines = c.args.lines.now in
    let i = c.loop-block.block-index in
    let block : get_or c.as_chunks.result.0.now i [] ≡ take 32 (drop (32 * i) lines)
    = rw c.as_chunks.ensures.front (get_or-chunks (length lines / 32) i lines (omega (arith, c.as_chunks.ensures.front_len))) in
    part_added c.requires c.loop-block.invariant (32 * (i + 1)) (block-occ lines i)
    (omega (arith, c.as_chunks.ensures.front_len)) (rw block at c.add_block.ensures)
