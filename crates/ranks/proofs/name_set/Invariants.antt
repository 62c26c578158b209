use Rattle.std.proofs.Common.{◌≡◌}
use Rattle.ranks.specs.Listed.{joined_at}
use Rattle.ranks.proofs.name_set.Given as goal

abbrev pub invariant-loop-rank : goal.invariant-loop-rank
invariant-loop-rank l = l.named ≡ joined_at l.list l.set l.rank
