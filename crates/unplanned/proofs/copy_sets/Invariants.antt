use Rattle.std.proofs.Common.{◌≡◌, take}
use Rattle.unplanned.proofs.copy_sets.Given as goal

abbrev pub invariant-loop-i : goal.invariant-loop-i
invariant-loop-i l = take l.i l.left ≡ take l.i l.sets
