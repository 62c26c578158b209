use Rattle.std.proofs.Common.{◌≤◌, ◌<◌}
use Rattle.flat_order.specs.Flat.{Raised}
use Rattle.flat_order.proofs.picking.raise.Given as goal

abbrev pub invariant-loop-v : goal.invariant-loop-v
invariant-loop-v l = (l.from ≤ l.v) × (l.from < l.v → l.v ≤ l.to) × Raised l.from l.v l.initial.levels l.levels l.reached
