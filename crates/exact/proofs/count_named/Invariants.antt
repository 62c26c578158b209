use Rattle.std.proofs.Common.{◌≡◌}
use Rattle.model.specs.Plan.{has}
use Rattle.model.specs.Renumber.{rank}
use Rattle.exact.proofs.count_named.Given as goal

abbrev pub invariant-loop-t : goal.invariant-loop-t
invariant-loop-t l = l.count ≡ rank (has l.names) l.t
