use Rattle.std.proofs.Common.{◌≡◌, get_or}
use Rattle.model.proofs.Loops.{mapped}
use Rattle.spread.proofs.name_tips.Given as goal

abbrev pub invariant-loop-tip : goal.invariant-loop-tip
invariant-loop-tip l = l.plan ≡ mapped (λ t. get_or l.list t 0) l.tip-index l.initial.plan
