use Rattle.std.proofs.Common.{◌≡◌, ◌++◌, ◌-◌, [], length, take, drop, sym, ap, ap₂, ◌∙◌, arith}
use mathlib.Core.List.{zip_with, append-nil}
use lib.ListN.{length-drop, drop_of_length-le}
use lib.Seq.{take_at}
use mir.Syntax.{w32}
use mir.ValLaws.{to_z-of_z}
use borrow.Rule.Slice.PartMut.{post_of}
use Rattle.placements.proofs.Repeated.{length-zip}
use Rattle.job.specs.Job.{header_length, rack_in, count_in, sets_in, quantities_in, paired, header_of, bytes_of_lines, file_of, version_for}
use Rattle.job.specs.Header.{version_number}
use Rattle.job.proofs.HeaderLaws.{length-header_of}
use Rattle.job.proofs.Lines.{length-paired}
use Rattle.job.proofs.Reading.{length-sets_in, length-quantities_in}
use Rattle.job.proofs.Writing.{version_one}
use Rattle.common_tip.specs.Common.{kept_by}
use Rattle.plain_file.proofs.Narrowed.{ones}
use Rattle.plain_file.proofs.keeping.put_kept.Goals as goal

pub returns : goal.returns
unfolding file_of
returns c =
    let a = c.args in
    let header = a.file.header in
    let is = a.file.header_is in
    let file = a.file.bytes.now in
    let qs = quantities_in file in
    let sets = zip_with (kept_by a.v a.margin) qs (sets_in file) in
    let lines = paired sets qs in
    let out = c.put_header.new.out in
    let head = header_of (version_number header.version) header.rack header.count in
    let same = length-quantities_in file ∙ sym (length-sets_in file) in
    let size : length sets ≡ count_in file = length-zip (kept_by a.v a.margin) qs (sets_in file) same ∙ length-sets_in file in
    let count : header.count ≡ length lines =
    is.count-is ∙ sym (length-paired sets qs (length-quantities_in file ∙ sym size) ∙ size) in
    let version : version_number header.version ≡ version_for qs =
    is.version-is ∙ c.requires.plain ∙ sym (version_one (ones file c.requires.plain)) in
    let front = ap (take header_length) c.put_header.ensures
    ∙ take_at head (drop header_length a.out.now) header_length (length-header_of (version_number header.version) header.rack header.count) in
    let gone : post_of header_length (length out - header_length) out ≡ [] =
    drop_of_length-le (drop header_length out) (omega (arith, length-drop header_length out)) in
    let put = c.put_kept_lines.ensures
    ∙ ap (λ z. bytes_of_lines 1 (paired (zip_with (kept_by a.v z) qs (sets_in file)) qs)) (to_z-of_z w32 a.margin c.ranges.margin) in
    ap₂ ◌++◌ front (ap₂ ◌++◌ put gone ∙ append-nil (bytes_of_lines 1 lines))
    ∙ ap₂ (λ m n. header_of (version_number header.version) m n ++ bytes_of_lines 1 lines) is.rack-is count
    ∙ ap₂ (λ v w. header_of v (rack_in file) (length lines) ++ bytes_of_lines w lines) version (sym (version_one (ones file c.requires.plain)))
