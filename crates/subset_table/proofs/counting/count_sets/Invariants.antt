use Rattle.std.proofs.Common.{◌≡◌, length, take}
use Rattle.placements.specs.Repeated.{repeated}
use Rattle.subset_table.specs.Counting.{set_counts}
use Rattle.subset_table.proofs.counting.count_sets.Given as goal

abbrev pub invariant-loop-i : goal.invariant-loop-i
invariant-loop-i l = l.counts ≡ set_counts (length l.fn.counts) (repeated (take l.i l.quantities) (take l.i l.lines))
