use Rattle.std.proofs.Common.{◌*◌, length}
use Rattle.counts.specs.Sums.{AddedTo}
use Rattle.counts.specs.Picked.{picked}
use Rattle.counts.proofs.picking.add_digit.Given as goal

abbrev pub invariant-loop-block : goal.invariant-loop-block
invariant-loop-block l = AddedTo (32 * length l.yielded) (picked l.j l.quantities l.lines) l.initial.sums l.sums
