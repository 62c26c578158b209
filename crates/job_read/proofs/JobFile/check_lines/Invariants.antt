use Rattle.std.proofs.Common.{◌≡◌, ◌+◌, eqb, drop}
use Rattle.model.specs.Count.{first_fail}
use Rattle.job.specs.Job.{line_numbers}
use Rattle.job.proofs.Reading.{bad_in}
use Rattle.job_read.proofs.JobFile.check_lines.Given as goal

-- no line before line i is refused
abbrev pub invariant-loop-i : goal.invariant-loop-i
invariant-loop-i l = bad_in l.self.bytes.now ≡ l.i + first_fail (λ n. eqb n 0) (drop l.i (line_numbers l.self.bytes.now))
