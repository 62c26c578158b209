use Rattle.std.proofs.Common.{◌≡◌, length}
use Rattle.flat_order.specs.Flat.{PartsAt}
use Rattle.flat_order.proofs.positions.by_position.Given as goal

abbrev pub invariant-loop-i : goal.invariant-loop-i
invariant-loop-i g l = record {
  size : length l.sets ≡ g.row.ENDS;
  places : PartsAt l.positions l.i l.sets;
}
