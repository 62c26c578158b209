use Prim.Native.Nat.{◌*◌, ◌-◌}
use mathlib.Core.Path.{◌≡◌, sym, ap, ap₂, ◌∙◌}
use native.Mathlib.Omega.{arith}
use lib.ListN.{length, drop, length-drop}
use lib.Seq.{take_all}
use Rattle.std.proofs.Common.{rules}
use Rattle.model.proofs.Lists.{all_get_d}
use Rattle.job.specs.Job.{Bytes, header_length, line_length, paired, bytes_of_lines, version_in, count_in, sets_in, quantities_in}
use Rattle.job.specs.Header.{version_number}
use Rattle.job.proofs.HeaderLaws.{header_good}
use Rattle.job.proofs.Writing.{own_lines}
use Rattle.job_write.proofs.file_lines.put_file_lines.Goals as goal

pub slice_bounds-copy_bytes-count : goal.slice_bounds-copy_bytes-count
slice_bounds-copy_bytes-count c = (header_good c.args.file.bytes.now c.args.file.good).start.long

pub slice_bounds-copy_bytes-start : goal.slice_bounds-copy_bytes-start
slice_bounds-copy_bytes-start c = (header_good c.args.file.bytes.now c.args.file.good).start.long

pub copy_bytes-requires : goal.copy_bytes-requires
copy_bytes-requires c =
    let a = c.args in
    let file = a.file.bytes.now in
    let same : a.version ≡ a.file.header.version = search rules in
    let size = length-drop header_length file in
    let rest = drop header_length file in
    let all = ap length (take_all (length file - header_length) rest (omega (arith, size))) in
    let g = header_good file a.file.good in
    let lines : line_length (version_number a.version) * a.file.header.count ≡ line_length (version_in file) * count_in file =
    ap₂ (λ v n. line_length v * n) (ap version_number same ∙ a.file.header_is.version-is) a.file.header_is.count-is in
    omega (arith, all, size, lines, g.whole, c.requires)

pub returns-then-eq : goal.returns-then-eq
returns-then-eq c =
    let a = c.args in
    let file = a.file.bytes.now in
    let g = header_good file a.file.good in
    let same : a.version ≡ a.file.header.version = search rules in
    let body : c.copy_bytes.new.out ≡ drop header_length file =
    c.copy_bytes.ensures ∙ take_all (length file - header_length) (drop header_length file) (omega (arith, length-drop header_length file)) in
    let bytes : Bytes (drop header_length file) = rw (sym body) (all_get_d 0 c.copy_bytes.new.out (λ i l. (c.type_inv.out i).fits)) in
    body ∙ sym (own_lines file bytes g)
    ∙ ap (λ v. bytes_of_lines v (paired (sets_in file) (quantities_in file))) (sym (ap version_number same ∙ a.file.header_is.version-is))
