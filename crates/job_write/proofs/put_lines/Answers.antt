use Rattle.std.proofs.Common.{◌≡◌, ◌+◌, ◌≤◌, ◌++◌, get_or, length, take, sym, ap, ap₂, ◌∙◌, arith}
use mathlib.Core.List.{append-nil}
use lib.Seq.{take_all}
use Rattle.job.specs.Job.{header_length, line_length, file_length, paired, bytes_of_lines}
use Rattle.job.specs.Header.{version_number}
use Rattle.job.proofs.Lines.{line_inside, line_long, written-more}
use Rattle.job_write.proofs.Laws.{line-put}
use Rattle.job_write.proofs.put_lines.Goals as goal

pub loop-i-init : goal.loop-i-init
unfolding bytes_of_lines paired
loop-i-init c =
    let first : file_length (version_number c.args.version) 0 ≡ header_length = omega arith in
    ap (λ k. take k c.args.out.now) first ∙ sym (append-nil _)

pub put_set_by_bytes-requires : goal.put_set_by_bytes-requires
put_set_by_bytes-requires c =
    let a = c.args in
    let v = version_number a.version in
    omega (arith, line_inside v c.loop-i.i (length a.sets.now) (omega arith), line_long v)

pub loop-i-preserved : goal.loop-i-preserved
loop-i-preserved c =
    let a = c.args in
    let at = c.loop-i in
    let i = at.i in
    let v = version_number a.version in
    let sets = a.sets.now in
    let qs = a.quantities.now in
    let p = c.file_length-at.result in
    let q = get_or qs i 0 in
    let room : p + line_length v ≤ length at.out = omega (arith, line_inside v i (length sets) (omega arith)) in
    let line-is = line-put v (get_or sets i 0) q p at.out (omega (arith, c.type_inv.quantities i)) room
    c.put_quantity.ensures c.put_set_by_bytes.ensures in
    ap (take (file_length v (i + 1))) (rw c.file_length-at.ensures at line-is)
    ∙ written-more v header_length (take header_length a.out.now) at.out sets qs i c.requires.quantities_len (omega arith) (omega arith) at.invariant

pub returns : goal.returns
returns c =
    let a = c.args in
    let at = c.loop-i in
    let v = version_number a.version in
    let all : at.i ≡ length a.sets.now = omega arith in
    let past : file_length v at.i ≡ file_length v (length a.sets.now) = ap (file_length v) all in
    sym (take_all (file_length v at.i) at.out (omega arith))
    ∙ at.invariant
    ∙ ap₂ (λ s q. take header_length a.out.now ++ bytes_of_lines v (paired s q))
    (take_all at.i a.sets.now (omega arith))
    (take_all at.i a.quantities.now (omega arith))
