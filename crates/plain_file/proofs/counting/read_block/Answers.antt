use Rattle.std.proofs.Common.{◌≡◌, ◌∙◌, ◌+◌, sym, ap, refl, arith, length}
use Rattle.std.specs.Int.{w64, swap_bytes}
use Rattle.model.specs.Count.{list_of}
use Rattle.model.proofs.ListOf.{filled_more}
use Rattle.job.specs.Job.{version_in, set_from}
use Rattle.job_read.proofs.There.{line_there, all_filled}
use Rattle.plain_file.specs.Swapped.{swapped_in}
use Rattle.plain_file.proofs.Swapped.{lines_part}
use Rattle.plain_file.proofs.counting.read_block.Goals as goal

pub loop-k-init : goal.loop-k-init
unfolding list_of
loop-k-init c = refl

pub line_of-line-requires : goal.line_of-line-requires
line_of-line-requires c =
    let self = c.args.file in
    let version : 1 ≡ version_in self.bytes.now = sym c.requires.plain in
    line_there self.bytes.now self.good 1 (c.args.first + c.loop-k.k) version (omega (arith, self.header_is.count-is, c.requires.inside))

pub loop-k-preserved : goal.loop-k-preserved
loop-k-preserved c =
    let self = c.args.file in
    let file = self.bytes.now in
    let at = c.args.first + c.loop-k.k in
    let version : 1 ≡ version_in file = sym c.requires.plain in
    let s = c.line_of-line.ensures.set ∙ ap (λ v. set_from v file at) version in
    filled_more (λ k. swapped_in file (c.args.first + k)) c.loop-k.block c.loop-k.k c.swap_bytes.result (omega arith) c.loop-k.invariant
    (c.swap_bytes.ensures ∙ ap (swap_bytes w64) s)

pub returns : goal.returns
returns c =
    let self = c.args.file in
    let n = length c.args.block.now in
    all_filled (λ k. swapped_in self.bytes.now (c.args.first + k)) _ c.loop-k.k (omega arith) (omega arith) c.loop-k.invariant
    ∙ lines_part self.bytes.now c.args.first n (omega (arith, self.header_is.count-is, c.requires.inside))
