use Rattle.std.proofs.Common.{◌≡◌, ◌++◌, map, take, drop}
use Rattle.model.specs.Greedy.{first}
use Rattle.exact.proofs.planning.put_tips.Given as goal

abbrev pub invariant-loop-i : goal.invariant-loop-i
invariant-loop-i l = l.plan ≡ map (first l.tips) (take l.i l.lines) ++ drop l.i l.fn.plan
