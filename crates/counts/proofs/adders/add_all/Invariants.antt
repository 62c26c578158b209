use Rattle.std.proofs.Common.{◌*◌}
use Rattle.counts.specs.Sums.{AddedTo}
use Rattle.counts.proofs.adders.add_all.Given as goal

abbrev pub invariant-loop-block : goal.invariant-loop-block
invariant-loop-block l = AddedTo (32 * l.block-index) l.lines l.initial.sums l.sums
