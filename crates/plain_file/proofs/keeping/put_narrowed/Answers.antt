use Rattle.std.proofs.Common.{◌≡◌, ◌+◌, ◌*◌, ◌<◌, length, take, get_or, refl, sym, ap, ap₂, ◌∙◌, arith}
use mathlib.Core.List.{map}
use native.Mathlib.Nat.{mul-zero}
use lib.ListN.{length-map}
use lib.Seq.{take_all}
use Rattle.std.specs.Int.{w64, swap_bytes}
use Rattle.model.proofs.Lists.{all-at, get_d_map}
use Rattle.job.specs.Job.{line_length, count_in, set_from, sets_in, quantities_in, paired, bytes_of_lines}
use Rattle.job.proofs.Lines.{lines_more}
use Rattle.job.proofs.Reading.{length-sets_in, length-quantities_in, set_there}
use Rattle.job_read.proofs.There.{line_there}
use Rattle.job_write.proofs.Laws.{line-put}
use Rattle.common_tip.specs.Common.{narrow_by}
use Rattle.plain_file.proofs.Narrowed.{narrow-swapped, ones}
use Rattle.plain_file.proofs.keeping.put_narrowed.Goals as goal

pub loop-i-init : goal.loop-i-init
unfolding bytes_of_lines paired
loop-i-init c = ap (λ k. take k c.args.out.now) (mul-zero (line_length 1))

pub line_of-set-requires : goal.line_of-set-requires
line_of-set-requires c =
    let self = c.args.file in
    line_there self.bytes.now self.good 1 c.loop-i.i (sym c.requires.plain) (omega (arith, self.header_is.count-is))

pub put_set-requires : goal.put_set-requires
unfolding line_length
put_set-requires c = omega (arith, c.requires.out_len)

pub loop-i-preserved : goal.loop-i-preserved
unfolding line_length
loop-i-preserved c =
    let a = c.args in
    let at = c.loop-i in
    let i = at.i in
    let file = a.file.bytes.now in
    let sets = map (narrow_by a.v) (sets_in file) in
    let qs = quantities_in file in
    let size : length sets ≡ count_in file = simp length-map (length-sets_in file) in
    let h : i < count_in file = omega (arith, a.file.header_is.count-is) in
    let set = c.line_of-set.result.0 in
    let is : set ≡ get_or (sets_in file) i 0 =
    c.line_of-set.ensures.set ∙ ap (λ v. set_from v file i) (sym c.requires.plain) ∙ set_there file i h in
    let kept = ap (swap_bytes w64) (c.narrow-kept.ensures ∙ ap₂ narrow_by c.swap_bytes-tips.ensures c.swap_bytes.ensures) in
    let s : c.swap_bytes-in-loop-i.result ≡ get_or sets i 0 =
    c.swap_bytes-in-loop-i.ensures ∙ kept ∙ narrow-swapped a.v set (omega arith) (omega arith) ∙ ap (narrow_by a.v) is
    ∙ sym (get_d_map (narrow_by a.v) 0 0 (sets_in file) i (omega (arith, length-sets_in file))) in
    let one = all-at 0 (ones file c.requires.plain) i (omega (arith, length-quantities_in file)) in
    let line-is = line-put 1 (get_or sets i 0) (get_or qs i 0) (8 * i) at.out (omega (arith, one)) (omega (arith, c.requires.out_len))
    refl (rw s at c.put_set.ensures) in
    ap (take (8 * (i + 1))) line-is
    ∙ lines_more 1 at.out sets qs i (length-quantities_in file ∙ sym size) (omega (arith, size))
    (omega (arith, c.requires.out_len, a.file.header_is.count-is, size)) at.invariant

pub returns : goal.returns
unfolding line_length
returns c =
    let a = c.args in
    let at = c.loop-i in
    let file = a.file.bytes.now in
    let sets = map (narrow_by a.v) (sets_in file) in
    let n = a.file.header_is.count-is in
    let all : at.i ≡ a.file.header.count = omega arith in
    let size : length sets ≡ count_in file = simp length-map (length-sets_in file) in
    sym (take_all (8 * at.i) at.out (omega (arith, c.requires.out_len)))
    ∙ at.invariant
    ∙ ap₂ (λ s q. bytes_of_lines 1 (paired s q))
    (take_all at.i sets (omega (arith, n, size)))
    (take_all at.i (quantities_in file) (omega (arith, n, length-quantities_in file)))
