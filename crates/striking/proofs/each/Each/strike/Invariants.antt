use Rattle.std.proofs.Common.{◌≡◌, take}
use Rattle.model.specs.Count.{list_of}
use Rattle.goal_rules.specs.Goal.{goal_tips}
use Rattle.striking.proofs.each.Each.strike.Given as goal

-- the lines before i are struck
abbrev pub invariant-loop-i : goal.invariant-loop-i
invariant-loop-i l = take l.i l.struck ≡ list_of (goal_tips l.self.all.m l.self.quantities.now l.self.lines.now l.self.goal) l.i
