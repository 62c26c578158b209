use mathlib.Core.Path.{sym, ◌∙◌}
use Rattle.std.proofs.Common.{length, refl}
use Rattle.counts.proofs.Blocks.{nothing_added, padded_fits, padded_added, no_tip}
use borrow.Author.Tests.{eqb-true}
use Rattle.counts.proofs.adders.add_rest.Goals as goal

pub returns-then-is_empty : goal.returns-then-is_empty
returns-then-is_empty c = nothing_added (eqb-true _ 0 (sym c.is_empty.ensures ∙ c.if-is_empty.true)) c.requires.fits

pub add_block-requires : goal.add_block-requires
add_block-requires c = rw c.copy_from_slice.ensures.after (padded_fits c.args.lines.now (length c.args.lines.now) no_tip refl c.requires.fits)

pub returns : goal.returns
returns c = padded_added c.args.lines.now (length c.args.lines.now) no_tip refl (rw c.copy_from_slice.ensures.after at c.add_block.ensures)
