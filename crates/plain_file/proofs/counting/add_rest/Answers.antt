use mathlib.Core.Path.{◌≡◌, refl, ◌∙◌}
use lib.Seq.{length-take-le}
use Rattle.std.proofs.Common.{arith, length, drop, ◌-◌, length-drop}
use Rattle.counts.proofs.Blocks.{nothing_added, padded_fits, padded_added, no_tip}
use Rattle.plain_file.specs.Swapped.{swapped_sets}
use Rattle.plain_file.proofs.Swapped.{lines_count, lines_rest}
use Rattle.plain_file.proofs.counting.add_rest.Goals as goal

pub returns-then-rest-eq0 : goal.returns-then-rest-eq0
returns-then-rest-eq0 c =
    let self = c.args.file in
    let none : length (drop c.args.first (swapped_sets self.bytes.now)) ≡ 0 =
    simp length-drop (omega (arith, lines_count self.bytes.now, self.header_is.count-is, c.if-rest-eq0.true)) in
    nothing_added none c.requires.fits

pub add_block-requires : goal.add_block-requires
add_block-requires c =
    let self = c.args.file in
    let rest = self.header.count - c.args.first in
    let size : length c.read_block.new.block ≡ rest = c.read_block.auto.block ∙ length-take-le _ _ (omega arith) in
    let all = c.read_block.ensures ∙ lines_rest self.bytes.now c.args.first _ (omega (arith, self.header_is.count-is, size)) in
    padded_fits (drop c.args.first (swapped_sets self.bytes.now)) rest no_tip (rw all refl) c.requires.fits

pub returns : goal.returns
returns c =
    let self = c.args.file in
    let rest = self.header.count - c.args.first in
    let size : length c.read_block.new.block ≡ rest = c.read_block.auto.block ∙ length-take-le _ _ (omega arith) in
    let all = c.read_block.ensures ∙ lines_rest self.bytes.now c.args.first _ (omega (arith, self.header_is.count-is, size)) in
    padded_added (drop c.args.first (swapped_sets self.bytes.now)) rest no_tip (rw all refl) c.add_block.ensures
