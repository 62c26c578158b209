use Rattle.std.proofs.Common.{◌≡◌, ◌++◌, take}
use Rattle.job.specs.Job.{header_length, file_length, paired, bytes_of_lines}
use Rattle.job.specs.Header.{version_number}
use Rattle.job_write.proofs.put_lines.Given as goal

abbrev pub invariant-loop-i : goal.invariant-loop-i
invariant-loop-i l =
    take (file_length (version_number l.version) l.i) l.out
    ≡ take header_length l.initial.out ++ bytes_of_lines (version_number l.version) (paired (take l.i l.sets) (take l.i l.quantities))
