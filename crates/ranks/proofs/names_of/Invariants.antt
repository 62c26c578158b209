use Rattle.std.proofs.Common.{◌≡◌, take}
use Rattle.model.specs.Renumber.{names}
use Rattle.ranks.proofs.names_of.Given as goal

abbrev pub invariant-loop-line : goal.invariant-loop-line
invariant-loop-line l = l.set ≡ names (take l.line-index l.lines)
