use mathlib.Core.Path.{sym, ◌∙◌}
use Rattle.std.proofs.Common.{arith, length}
use Rattle.counts.specs.Picked.{picked}
use Rattle.counts.proofs.Picked.{picked-length}
use Rattle.counts.proofs.Blocks.{nothing_added, padded_fits, padded_added, no_tip}
use borrow.Author.Tests.{eqb-true}
use Rattle.counts.proofs.picking.pick_rest.Goals as goal

pub returns-then-is_empty : goal.returns-then-is_empty
returns-then-is_empty c =
    let z = eqb-true _ 0 (sym c.is_empty.ensures ∙ c.if-is_empty.true) in
    nothing_added (omega (arith, picked-length c.args.j c.args.quantities.now c.args.lines.now c.requires.same, z)) c.requires.fits

pub add_block-requires : goal.add_block-requires
add_block-requires c =
    padded_fits (picked c.args.j c.args.quantities.now c.args.lines.now) (length c.args.lines.now)
    no_tip c.pick_lines.ensures c.requires.fits

pub returns : goal.returns
returns c =
    padded_added (picked c.args.j c.args.quantities.now c.args.lines.now) (length c.args.lines.now)
    no_tip c.pick_lines.ensures c.add_block.ensures
