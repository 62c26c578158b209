use Rattle.std.proofs.Common.{◌≡◌, ◌+◌, ◌*◌, ◌≤◌, ◌<◌, length, take, sym, ap, ap₂, ◌∙◌, arith}
use native.Mathlib.Nat.{mul-zero}
use lib.Seq.{take_all}
use Rattle.job.specs.Job.{line_length, count_in, sets_in, quantities_in, paired, bytes_of_lines}
use Rattle.job.specs.Header.{version_number}
use Rattle.job.proofs.Lines.{line_inside, line_long, lines_more}
use Rattle.job.proofs.Reading.{length-sets_in, length-quantities_in, set_there, quantity_there}
use Rattle.job_write.proofs.Laws.{line-put}
use Rattle.job_write.proofs.file_lines.put_each_line.Goals as goal

pub loop-i-init : goal.loop-i-init
unfolding bytes_of_lines paired
loop-i-init c = ap (λ k. take k c.args.out.now) (mul-zero (line_length (version_number c.args.version)))

pub put_set-requires : goal.put_set-requires
put_set-requires c =
    let a = c.args in
    let i = c.loop-i.i in
    let v = version_number a.version in
    omega (arith, line_inside v i a.file.header.count (omega arith), line_long v, ap (λ k. k * i) c.line_length.ensures)

pub loop-i-preserved : goal.loop-i-preserved
loop-i-preserved c =
    let a = c.args in
    let at = c.loop-i in
    let i = at.i in
    let file = a.file.bytes.now in
    let v = version_number a.version in
    let sets = sets_in file in
    let qs = quantities_in file in
    let h : i < count_in file = omega (arith, a.file.header_is.count-is) in
    let p = line_length v * i in
    let s = c.line-set.ensures.set ∙ set_there file i h in
    let q = c.line-set.ensures.quantity ∙ quantity_there file i h in
    let room : p + line_length v ≤ length at.out = omega (arith, line_inside v i a.file.header.count (omega arith)) in
    let line-is = line-put v c.line-set.result.0 c.line-set.result.1 (c.line_length.result * i) at.out (omega arith)
    (rw c.line_length.ensures room) c.put_quantity.ensures c.put_set.ensures in
    ap (take (line_length v * (i + 1))) (rw (c.line_length.ensures, s, q) at line-is)
    ∙ lines_more v at.out sets qs i (length-quantities_in file ∙ sym (length-sets_in file)) (omega (arith, length-sets_in file))
    (omega (arith, ap (λ n. line_length v * n) (a.file.header_is.count-is ∙ sym (length-sets_in file)))) at.invariant

pub returns : goal.returns
returns c =
    let a = c.args in
    let at = c.loop-i in
    let file = a.file.bytes.now in
    let v = version_number a.version in
    let n = a.file.header_is.count-is in
    let all : at.i ≡ a.file.header.count = omega arith in
    let past : line_length v * at.i ≡ line_length v * a.file.header.count = ap (λ k. line_length v * k) all in
    sym (take_all (line_length v * at.i) at.out (omega arith))
    ∙ at.invariant
    ∙ ap₂ (λ s q. bytes_of_lines v (paired s q))
    (take_all at.i (sets_in file) (omega (arith, n, length-sets_in file)))
    (take_all at.i (quantities_in file) (omega (arith, n, length-quantities_in file)))
