use Rattle.job.specs.Job.{set_length}
use Rattle.job.proofs.Good.{ReadUpTo}
use Rattle.job_read.specs.Swapped.{swapped}
use Rattle.job_read.proofs.JobFile.good_total.Given as goal

abbrev pub invariant-loop-i : goal.invariant-loop-i
invariant-loop-i l = ReadUpTo l.self.bytes.now l.i (swapped set_length l.swapped.union) l.swapped.zeros l.swapped.total
