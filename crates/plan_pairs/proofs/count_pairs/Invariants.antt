use Rattle.std.proofs.Common.{◌≡◌, length}
use Rattle.model.specs.Plan.{pairs}
use Rattle.plan_pairs.specs.OnTips.{on_tips}
use Rattle.plan_pairs.proofs.Joined.{placed}
use Rattle.plan_pairs.proofs.count_pairs.Given as goal

-- the placements of the lines passed are counted, on each tip and in pairs
abbrev pub invariant-loop-tip : goal.invariant-loop-tip
invariant-loop-tip l =
    let i = length l.yielded in
    (l.on ≡ on_tips (placed l.quantities l.plan i)) × (l.shared ≡ pairs (placed l.quantities l.plan i))
