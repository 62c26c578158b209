use Rattle.std.proofs.Common.{◌≡◌, ◌*◌, take}
use mathlib.Core.List.{map}
use Rattle.job.specs.Job.{line_length, sets_in, quantities_in, paired, bytes_of_lines}
use Rattle.common_tip.specs.Common.{narrow_by}
use Rattle.plain_file.proofs.keeping.put_narrowed.Given as goal

abbrev pub invariant-loop-i : goal.invariant-loop-i
invariant-loop-i l =
    take (line_length 1 * l.i) l.out
    ≡ bytes_of_lines 1 (paired (take l.i (map (narrow_by l.v) (sets_in l.file.bytes.now))) (take l.i (quantities_in l.file.bytes.now)))
