use Rattle.std.proofs.Common.{◌≡◌, take}
use Rattle.model.specs.Count.{list_of}
use Rattle.job.specs.Job.{set_in}
use Rattle.job.proofs.Good.{ReadUpTo}
use Rattle.job_read.proofs.JobFile.read_plain.Given as goal

abbrev pub invariant-loop-i : goal.invariant-loop-i
invariant-loop-i l = record {
  sets : take l.i l.sets ≡ list_of (set_in l.self.bytes.now) l.i;
  read : ReadUpTo l.self.bytes.now l.i l.gathered.union l.gathered.zeros l.gathered.total;
}
