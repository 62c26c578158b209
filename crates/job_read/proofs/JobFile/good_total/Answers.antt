use Rattle.std.proofs.Common.{◌∙◌, ◌&&◌, leb, sym, ap, ap₂, arith}
use Rattle.std.specs.Bool.{then_some}
use Rattle.model.specs.Limits.{most_placements}
use Rattle.job.specs.Job.{set_length, set_from, quantity_from}
use Rattle.job.proofs.Good.{all_good, total_end, read_start, read_next}
use Rattle.job_read.specs.Swapped.{swapped}
use Rattle.job_read.proofs.Swapped.{swapped_or, empty_swapped, swapped_is, swapped_back}
use Rattle.job_read.proofs.There.{all_read}
use Rattle.job_read.proofs.JobFile.good_total.Goals as goal

pub loop-i-init : goal.loop-i-init
unfolding swapped
loop-i-init c = read_start c.args.self.bytes.now

pub loop-i-preserved : goal.loop-i-preserved
loop-i-preserved c =
    let file = c.args.self.bytes.now in
    let at = c.loop-i in
    let line = c.line_of-set in
    let set = c.swap_bytes.result in
    let version = c.args.self.header_is.version-is in
    let back = ap (swapped set_length) c.swap_bytes.ensures ∙ swapped_back line.result.0 (omega arith) in
    let s = back ∙ line.ensures.set ∙ ap (λ v. set_from v file at.i) version in
    let q = line.ensures.quantity ∙ ap (λ v. quantity_from v file at.i) version in
    rw (
      c.with-swapped.ensures.union,
      c.with-swapped.ensures.zeros,
      c.with-swapped.ensures.total,
      swapped_or set_length at.swapped.union set,
      sym (empty_swapped set_length set (omega arith)),
    )
    (read_next file at.i (swapped set_length at.swapped.union) at.swapped.zeros at.swapped.total (swapped set_length set) line.result.1
    (omega arith) (omega arith) s q at.invariant)

pub returns : goal.returns
returns c =
    let self = c.args.self in
    let file = self.bytes.now in
    let at = c.loop-i in
    let told = c.is_good.ensures
    ∙ ap (λ u. all_good self.header.rack u at.swapped.zeros && leb at.swapped.total most_placements)
    (c.swap_bytes-2.ensures ∙ swapped_is at.swapped.union) in
    let good = all_read file at.i (swapped set_length at.swapped.union) at.swapped.zeros at.swapped.total self.header_is.rack-is (omega arith)
    at.invariant told in
    c.then_some.ensures ∙ ap₂ then_some good (total_end file at.i at.swapped.total (omega arith) at.invariant.totals)
