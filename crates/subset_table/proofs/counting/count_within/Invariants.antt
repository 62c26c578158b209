use Rattle.std.proofs.Common.{◌≡◌}
use Rattle.placements.specs.Repeated.{repeated}
use Rattle.subset_table.specs.Counting.{part_counts}
use Rattle.subset_table.proofs.counting.count_within.Given as goal

abbrev pub invariant-loop-t : goal.invariant-loop-t
invariant-loop-t l = l.counts ≡ part_counts l.m l.t (repeated l.quantities l.lines)
