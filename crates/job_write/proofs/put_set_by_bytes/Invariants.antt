use Rattle.std.proofs.Common.{◌≡◌}
use Rattle.std.proofs.Math.Seq.{paste}
use Rattle.job.specs.Job.{set_length, bytes_of}
use Rattle.job_write.proofs.put_set_by_bytes.Given as goal

abbrev pub invariant-loop-k : goal.invariant-loop-k
invariant-loop-k l = l.out ≡ paste l.fn.out l.at (bytes_of set_length l.set) l.k
