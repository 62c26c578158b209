use Rattle.std.proofs.Common.{◌≡◌}
use Rattle.model.proofs.Loops.{mapped}
use Rattle.ranks.specs.Listed.{named_by}
use Rattle.ranks.proofs.name_sets.Given as goal

abbrev pub invariant-loop-set : goal.invariant-loop-set
invariant-loop-set l = l.sets ≡ mapped (named_by l.list) l.set-index l.initial.sets
