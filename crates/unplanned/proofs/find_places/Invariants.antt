use Rattle.unplanned.specs.Listed.{Found}
use Rattle.unplanned.proofs.find_places.Given as goal

abbrev pub invariant-loop-k : goal.invariant-loop-k
invariant-loop-k l = Found l.tip l.k l.list l.sets l.found l.places
