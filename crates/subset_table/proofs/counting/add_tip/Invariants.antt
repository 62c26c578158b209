use Rattle.std.proofs.Common.{◌-◌, length}
use Rattle.subset_table.proofs.Adding.{Blocks}
use Rattle.subset_table.proofs.counting.add_tip.Given as goal

abbrev pub invariant-loop-start : goal.invariant-loop-start
invariant-loop-start l = Blocks l.t l.initial.counts l.start l.counts

abbrev pub decreases-loop-start : goal.decreases-loop-start
decreases-loop-start l = length l.counts - l.start
