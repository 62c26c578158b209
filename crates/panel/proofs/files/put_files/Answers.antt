use Prim.Native.Nat.{◌+◌}
use mathlib.Core.Path.{◌≡◌, sym, ap, ap₂, ◌∙◌}
use mathlib.Core.List.{◌++◌}
use native.Mathlib.Omega.{arith}
use lib.ListN.{length, drop, length-append}
use Rattle.job.specs.Job.{header_length, paired, header_of, bytes_of_lines, sets_in, quantities_in}
use Rattle.job.specs.Header.{version_number}
use Rattle.job.proofs.HeaderLaws.{length-header_of}
use Rattle.job.proofs.Reading.{length-sets_in, length-quantities_in}
use Rattle.job.proofs.Writing.{file-append}
use Rattle.panel.proofs.BothFiles.{put_both}
use Rattle.panel.proofs.files.put_files.Goals as goal

pub returns : goal.returns
returns c =
    let a = c.args in
    let v = version_number a.header.version in
    let first = a.first.bytes.now in
    let second = a.second.bytes.now in
    let sets = sets_in first in
    let others = sets_in second in
    let qs = quantities_in first in
    let rs = quantities_in second in
    let head = header_of v a.header.rack a.header.count in
    let lines = c.put_file_lines.new.out in
    let more = c.put_file_lines-2.new.out in
    let same = length-quantities_in first ∙ sym (length-sets_in first) in
    let others_same = length-quantities_in second ∙ sym (length-sets_in second) in
    let front = a.first.header_is.count-is ∙ sym (length-sets_in first) in
    let behind = a.second.header_is.count-is ∙ sym (length-sets_in second) in
    let count : a.header.count ≡ length sets + length others = c.requires.count ∙ ap₂ ◌+◌ front behind in
    put_both c.put_header.new.out head (drop header_length a.out.now) lines more header_length c.file_length-middle.result c.put_header.ensures
    (length-header_of v a.header.rack a.header.count)
    (omega (arith, length-append head lines, length-header_of v a.header.rack a.header.count, c.file_length-middle.ensures))
    ∙ ap₂ (λ l r. head ++ (l ++ r)) c.put_file_lines.ensures c.put_file_lines-2.ensures
    ∙ ap (λ n. header_of v a.header.rack n ++ (bytes_of_lines v (paired sets qs) ++ bytes_of_lines v (paired others rs))) count
    ∙ sym (file-append v a.header.rack sets others qs rs same others_same)
