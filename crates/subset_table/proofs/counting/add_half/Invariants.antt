use Rattle.std.proofs.Common.{◌+◌, ◌^◌}
use Rattle.subset_table.specs.Counting.{Summing}
use Rattle.subset_table.proofs.counting.add_half.Given as goal

abbrev pub invariant-loop-u : goal.invariant-loop-u
invariant-loop-u l = Summing l.t l.start l.initial.counts (l.u + 2 ^ l.t) l.counts
