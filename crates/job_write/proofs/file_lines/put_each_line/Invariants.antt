use Rattle.std.proofs.Common.{◌≡◌, ◌*◌, take}
use Rattle.job.specs.Job.{line_length, sets_in, quantities_in, paired, bytes_of_lines}
use Rattle.job.specs.Header.{version_number}
use Rattle.job_write.proofs.file_lines.put_each_line.Given as goal

abbrev pub invariant-loop-i : goal.invariant-loop-i
invariant-loop-i l =
    take (line_length (version_number l.version) * l.i) l.out
    ≡ bytes_of_lines (version_number l.version) (paired (take l.i (sets_in l.file.bytes.now)) (take l.i (quantities_in l.file.bytes.now)))
