use Rattle.std.proofs.Common.{◌≡◌, eqb}
use Rattle.model.specs.CommonTip.{set_of}
use Rattle.greedy.specs.Eight.{count_in}
use Rattle.greedy.proofs.eight.tips_with.Given as goal

abbrev pub invariant-loop-tip : goal.invariant-loop-tip
invariant-loop-tip l = l.tips ≡ set_of (λ t. eqb (count_in l.counts t) l.most) l.tip
