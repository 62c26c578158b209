use Rattle.std.proofs.Common.{◌≡◌, drop}
use Rattle.model.specs.Greedy.{first}
use Rattle.exact.proofs.planning.first_tip.Given as goal

abbrev pub invariant-loop-tip : goal.invariant-loop-tip
invariant-loop-tip l = first l.tips l.line ≡ first (drop l.tip-index l.tips) l.line
