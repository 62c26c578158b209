use Rattle.std.proofs.Common.{arith, rules, ◌≡◌, ◌+◌, ◌*◌, ◌/◌, ◌≤◌, ◌<◌, length, length-append, take, drop, [], ◌∷◌, ◌++◌, ◌∙◌}
use Rattle.std.proofs.lemmas.Slice.Zip.{zip_turn, zip_end}
use Rattle.counts.specs.Picked.{picked}
use Rattle.counts.proofs.Picked.{picked-length, picked-block, picked-rest}
use Rattle.counts.proofs.Blocks.{get_or-chunks, block-occ, part-fits, part_added, rest-fits, rest_added}
use Rattle.counts.proofs.picking.add_digit.Goals.{In-Some, In-None, After-pick_lines}
use Rattle.counts.proofs.picking.add_digit.Goals as goal

-- this turn's blocks
turn : (c : In-Some) → let i = length c.loop-block.yielded in
    (i < length c.args.lines.now / 32) × (c.in-Some.block.now ≡ take 32 (drop (32 * i) c.args.lines.now))
    × (c.in-Some.numbers.now ≡ take 32 (drop (32 * i) c.args.quantities.now))
turn c =
    let i = length c.loop-block.yielded in
    let qs = c.args.quantities.now in
    let lines = c.args.lines.now in
    let (below, _, block, numbers) = zip_turn c.as_chunks.result.0.now c.as_chunks-2.result.0.now c.loop-block.yielded
    c.into_iter-block-iterator.result c.loop-block.block-iterator c.next.new.self c.next.result (search rules) (search rules)
    c.loop-block.yielded_by (c.in-Some.block, c.in-Some.numbers) c.in-Some.is c.next.ensures.steps in
    let l : i < length lines / 32 = omega (arith, below, c.as_chunks.ensures.front_len) in (
      l,
      block [] ∙ rw c.as_chunks.ensures.front (get_or-chunks (length lines / 32) i lines l),
      numbers [] ∙ rw c.as_chunks-2.ensures.front (get_or-chunks (length qs / 32) i qs (omega (arith, c.requires.same))),
    )

-- the lines that are chosen of them
picked_here : (c : After-pick_lines) → let i = length c.loop-block.yielded in
    (i < length c.args.lines.now / 32) × (c.in-Some.block.now ≡ take 32 (drop (32 * i) c.args.lines.now))
    × (c.in-Some.numbers.now ≡ take 32 (drop (32 * i) c.args.quantities.now))
    → c.pick_lines.new.chosen ≡ take 32 (drop (32 * i) (picked c.args.j c.args.quantities.now c.args.lines.now))
picked_here c (below, block, numbers) =
    let i = length c.loop-block.yielded in
    rw (block, numbers) at c.pick_lines.ensures
    ∙ picked-block c.args.j c.args.quantities.now c.args.lines.now c.requires.same i (omega arith) c.loop-block.chosen (omega arith)

pub add_block-requires : goal.add_block-requires
add_block-requires c =
    let at = goal.at.add_block-requires c in
    let t = turn at.In-Some in
    let i = length c.loop-block.yielded in
    let all = picked c.args.j c.args.quantities.now c.args.lines.now in
    rw (picked_here at.After-pick_lines t) (part-fits c.requires.fits c.loop-block.invariant (32 * (i + 1)) (block-occ all i))

pub loop-block-preserved : goal.loop-block-preserved
loop-block-preserved c =
    let at = goal.at.loop-block-preserved c in
    let t = turn at.In-Some in
    let i = length c.loop-block.yielded in
    let all = picked c.args.j c.args.quantities.now c.args.lines.now in
    let n : length (c.loop-block.yielded ++ ((c.in-Some.block, c.in-Some.numbers) ∷ [])) ≡ i + 1 = length-append _ _ in
    let within : 32 * (i + 1) ≤ length all = omega (arith, picked-length c.args.j c.args.quantities.now c.args.lines.now c.requires.same, t.0) in
    rw n (part_added c.requires.fits c.loop-block.invariant (32 * (i + 1)) (block-occ all i) within
    (rw (picked_here at.After-pick_lines t) at c.add_block.ensures))

-- after the last whole block
turns : (c : In-None) → length c.loop-block.yielded ≡ length c.args.lines.now / 32
turns c =
    let all = zip_end c.as_chunks.result.0.now c.as_chunks-2.result.0.now c.loop-block.yielded
    c.into_iter-block-iterator.result c.loop-block.block-iterator c.next.new.self c.next.result (search rules) (search rules)
    c.loop-block.yielded_by c.in-None.is c.next.ensures.steps in
    omega (arith, all, c.as_chunks.ensures.front_len, c.as_chunks-2.ensures.front_len, c.requires.same)

-- the lines that are left, chosen
left : (c : In-None) → picked c.args.j c.as_chunks-2.result.1.now c.as_chunks.result.1.now
    ≡ drop (32 * length c.loop-block.yielded) (picked c.args.j c.args.quantities.now c.args.lines.now)
left c =
    let qs = c.args.quantities.now in
    let lines = c.args.lines.now in
    let i = length c.loop-block.yielded in
    let e : length lines / 32 * 32 ≡ 32 * i = omega (arith, turns c) in
    let f : length qs / 32 * 32 ≡ 32 * i = omega (arith, turns c, c.requires.same) in
    rw (c.as_chunks.ensures.back, c.as_chunks-2.ensures.back, e, f) (picked-rest c.args.j qs lines c.requires.same (32 * i))

pub pick_rest-requires-clause-fits : goal.pick_rest-requires-clause-fits
pick_rest-requires-clause-fits c =
    rw (left (goal.at.pick_rest-requires-clause-fits c).In-None) (rest-fits c.requires.fits c.loop-block.invariant)

pub returns : goal.returns
returns c =
    rest_added c.requires.fits c.loop-block.invariant (rw (left (goal.at.returns c).In-None) at c.pick_rest.ensures)
