use Rattle.std.proofs.Common.{◌≡◌, false, replicate, sym, ap, ◌∙◌}
use Rattle.model.proofs.Lists.{all_same}
use Rattle.job.specs.Job.{counted, version_in}
use Rattle.job.specs.Header.{version_number}
use Rattle.job.proofs.Reading.{length-quantities_in, plain_quantities}
use Rattle.job_read.proofs.JobFile.read_lines.Goals as goal

pub returns-in-Plain-clause-quantities : goal.returns-in-Plain-clause-quantities
returns-in-Plain-clause-quantities c =
    let self = c.args.self in
    let file = self.bytes.now in
    let plain : counted (version_in file) ≡ false = ap counted (sym self.header_is.version-is ∙ ap version_number c.in-Plain.is) in
    c.fill.ensures.after (λ y e. e)
    ∙ ap (λ n. replicate n 1) (c.requires.quantities_len ∙ self.header_is.count-is ∙ sym (length-quantities_in file))
    ∙ sym (all_same 1 (plain_quantities file plain))
