use Rattle.std.proofs.Common.{◌≡◌, ◌≤◌, ◌+◌, ◌-◌, ◌++◌, length, take, drop}
use Rattle.along.specs.Along.{fewest_from, plan_from}
use Rattle.along.proofs.plan_along.Given as goal

-- of what the loop began with, the rest of the plan and its changes
abbrev pub invariant-loop-at : goal.invariant-loop-at
invariant-loop-at l =
    let i = l.initial in
    (l.at ≤ length l.sets) × (l.changes ≤ l.at) × (length l.plan ≡ length l.sets)
    × (take i.at i.plan ++ plan_from 0 (drop i.at l.sets) ≡ take l.at l.plan ++ plan_from 0 (drop l.at l.sets))
    × (fewest_from 0 (drop i.at l.sets) ≡ l.changes + fewest_from 0 (drop l.at l.sets))

abbrev pub decreases-loop-at : goal.decreases-loop-at
decreases-loop-at l = length l.sets - l.at
