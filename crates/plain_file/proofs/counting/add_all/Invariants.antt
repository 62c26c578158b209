use Rattle.std.proofs.Common.{◌*◌}
use Rattle.counts.specs.Sums.{AddedTo}
use Rattle.plain_file.specs.Swapped.{swapped_sets}
use Rattle.plain_file.proofs.counting.add_all.Given as goal

abbrev pub invariant-loop-i : goal.invariant-loop-i
invariant-loop-i l = AddedTo (32 * l.i) (swapped_sets l.file.bytes.now) l.initial.sums l.sums
