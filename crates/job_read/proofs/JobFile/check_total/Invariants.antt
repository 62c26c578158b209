use Rattle.std.proofs.Common.{◌≡◌, ◌+◌, drop}
use Rattle.placements.specs.Totals.{first_over}
use Rattle.job.specs.Job.{quantities_in}
use Rattle.job.proofs.Reading.{over_in}
use Rattle.job_read.proofs.JobFile.check_total.Given as goal

-- with no line before line i the total passes
abbrev pub invariant-loop-i : goal.invariant-loop-i
invariant-loop-i l = over_in l.self.bytes.now ≡ l.i + first_over l.left (drop l.i (quantities_in l.self.bytes.now))
