use Rattle.std.proofs.Common.{◌≡◌, ◌^◌, ◌<◌, take}
use Rattle.job.specs.Job.{number_of}
use Rattle.job_read.proofs.set_by_bytes.Given as goal

abbrev pub invariant-loop-byte : goal.invariant-loop-byte
invariant-loop-byte l = record {
  number : l.set ≡ number_of (take l.byte-index l.bytes);
  small : l.set < 256 ^ l.byte-index;
}
