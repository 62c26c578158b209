use Rattle.std.proofs.Common.{◌++◌, length, take, drop, sym, ap, ◌∙◌, arith}
use lib.Seq.{take_at}
use Rattle.job.specs.Job.{header_length, file_length, paired, header_of, bytes_of_lines, file_of, version_for}
use Rattle.job.specs.Header.{version_number}
use Rattle.job.proofs.HeaderLaws.{length-header_of}
use Rattle.job.proofs.Lines.{length-paired}
use Rattle.job_write.proofs.Laws.{version_by-length, plain_shorter}
use Rattle.job_write.proofs.write_file.Goals as goal

pub version_by-version-requires : goal.version_by-version-requires
version_by-version-requires c =
    omega (arith, c.requires.out_len, plain_shorter (version_for c.args.quantities.now) (length c.args.sets.now))

pub put_lines-requires-clause-out_len : goal.put_lines-requires-clause-out_len
put_lines-requires-clause-out_len c =
    let a = c.args in
    let version = c.version_by-version.ensures
    ∙ version_by-length a.quantities.now (length a.sets.now) (length a.out.now) c.requires.quantities_len c.requires.out_len in
    c.put_header.auto.out ∙ c.requires.out_len ∙ ap (λ v. file_length v (length a.sets.now)) (sym version)

pub returns : goal.returns
unfolding file_of
returns c =
    let a = c.args in
    let v = version_number c.version_by-version.result in
    let sets = a.sets.now in
    let lines = paired sets a.quantities.now in
    let head = header_of v a.rack (length sets) in
    let version = c.version_by-version.ensures
    ∙ version_by-length a.quantities.now (length sets) (length a.out.now) c.requires.quantities_len c.requires.out_len in
    c.put_lines.ensures
    ∙ ap (λ l. take header_length l ++ bytes_of_lines v lines) c.put_header.ensures
    ∙ ap (λ l. l ++ bytes_of_lines v lines) (take_at head (drop header_length a.out.now) header_length (length-header_of v a.rack (length sets)))
    ∙ ap (λ n. header_of v a.rack n ++ bytes_of_lines v lines) (sym (length-paired sets a.quantities.now c.requires.quantities_len))
    ∙ ap (λ w. file_of w a.rack lines) version
