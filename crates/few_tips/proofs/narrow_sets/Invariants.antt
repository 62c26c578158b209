use Rattle.std.proofs.Common.{◌≡◌, take}
use Rattle.few_tips.proofs.narrow_sets.Given as goal

abbrev pub invariant-loop-i : goal.invariant-loop-i
invariant-loop-i l = take l.i l.narrow ≡ take l.i l.sets
