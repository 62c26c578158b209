use Rattle.std.proofs.Common.{◌≡◌, ◌+◌, ◌-◌, take, drop, ap, ◌∙◌, arith}
use Rattle.job.specs.Job.{set_length, number_at, number_of}
use Rattle.job_read.proofs.set_bytes.Goals as goal

pub returns-clause-number : goal.returns-clause-number
unfolding number_at
returns-clause-number c =
    let file = c.args.file.now in
    let at = c.file_length-at.result in
    let eight : at + set_length - at ≡ set_length = omega arith in
    ap (λ n. number_of (take n (drop at file))) eight ∙ ap (number_at set_length file) c.file_length-at.ensures
