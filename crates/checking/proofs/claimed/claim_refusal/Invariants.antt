use Rattle.std.proofs.Common.{◌≡◌, length, drop}
use Rattle.model.specs.Plan.{pairs}
use Rattle.goal_rules.specs.Check.{is_valid}
use Rattle.plan_pairs.specs.OnTips.{on_tips}
use Rattle.plan_pairs.proofs.Joined.{placed}
use Rattle.checking.proofs.claimed.claim_refusal.Given as goal

-- the lines passed are on tips of their own, and their placements are counted
abbrev pub invariant-loop-tip : goal.invariant-loop-tip
invariant-loop-tip l =
    let i = length l.yielded in
    (is_valid l.lines l.plan ≡ is_valid (drop i l.lines) (drop i l.plan))
    × (l.on ≡ on_tips (placed l.quantities l.plan i)) × (l.shared ≡ pairs (placed l.quantities l.plan i))
