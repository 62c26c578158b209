use lib.Dec.{leb, le→leb}
use Rattle.std.proofs.Common.{◌∙◌, ap, sym, arith, eqb, length}
use Rattle.model.proofs.Tests.{true_T}
use Rattle.job.specs.Job.{header_length}
use Rattle.job.proofs.Numbers.{number_two}
use Rattle.plain_file.proofs.is_plain.Goals as goal

pub returns : goal.returns
returns c =
    let file = c.args.file.now in
    let long = true_T (leb header_length (length file)) (le→leb header_length (length file) c.if-file-lt-HEADER.false) in
    rw long (ap (λ v. eqb v 1) (c.from_be_bytes.ensures ∙ sym (number_two file 3 (omega arith))))
