use Rattle.std.proofs.Common.{arith, ◌≡◌, ◌+◌, ◌*◌, ◌/◌, length, take, drop, ap, ◌∙◌}
use Rattle.counts.proofs.Blocks.{block-occ, part-fits, part_added, rest-fits, rest_added}
use Rattle.plain_file.specs.Swapped.{swapped_sets}
use Rattle.plain_file.proofs.Swapped.{lines_count}
use Rattle.plain_file.proofs.counting.add_all.Goals as goal

pub add_block-requires : goal.add_block-requires
add_block-requires c =
    let i = c.loop-i.i in
    let lines = swapped_sets c.args.file.bytes.now in
    let size : length c.loop-i.block ≡ 32 = omega arith in
    let block = c.read_block.ensures ∙ ap (λ n. take n (drop (32 * i) lines)) size in
    rw block (part-fits c.requires.fits c.loop-i.invariant (32 * (i + 1)) (block-occ lines i))

pub loop-i-preserved : goal.loop-i-preserved
loop-i-preserved c =
    let i = c.loop-i.i in
    let self = c.args.file in
    let lines = swapped_sets self.bytes.now in
    let size : length c.loop-i.block ≡ 32 = omega arith in
    let block = c.read_block.ensures ∙ ap (λ n. take n (drop (32 * i) lines)) size in
    part_added c.requires.fits c.loop-i.invariant (32 * (i + 1)) (block-occ lines i)
    (omega (arith, lines_count self.bytes.now, self.header_is.count-is)) (rw block at c.add_block.ensures)

pub add_rest-requires-clause-fits : goal.add_rest-requires-clause-fits
add_rest-requires-clause-fits c =
    let all : c.loop-i.i ≡ c.args.file.header.count / 32 = omega arith in
    rw all at (rest-fits c.requires.fits c.loop-i.invariant)

pub returns : goal.returns
returns c =
    let all : c.args.file.header.count / 32 ≡ c.loop-i.i = omega arith in
    rest_added c.requires.fits c.loop-i.invariant (rw all at c.add_rest.ensures)
