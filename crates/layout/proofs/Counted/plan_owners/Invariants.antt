use Rattle.std.proofs.Common.{◌≡◌, ◌++◌, map, take, drop}
use Rattle.layout.specs.Owners.{owner_of}
use Rattle.layout.proofs.Counted.plan_owners.Given as goal

abbrev pub invariant-loop-i : goal.invariant-loop-i
invariant-loop-i l = l.plan ≡ map (owner_of l.self.m l.owner) (take l.i l.lines) ++ drop l.i l.initial.plan
