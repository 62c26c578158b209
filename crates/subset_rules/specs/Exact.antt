-- What exact sharing promises of its plan against every other, counted in placements.
use Rattle.std.specs.Prelude.{ℕ, ◌+◌, ◌*◌, ◌≤◌, List, min}
use Rattle.model.specs.Limits.{most_pairs}
use Rattle.model.specs.Plan.{Valid, pairs}
use Rattle.placements.specs.Repeated.{repeated}
use Rattle.subset_rules.specs.Subsets.{tips_used}

-- the most tips that the lines of a board for exact sharing can name
abbrev pub most_named : ℕ
most_named = 20

-- one more than the pairs of any plan: a higher price counts as this
abbrev pub most_price : ℕ
most_price = most_pairs + 1

abbrev pub capped : ℕ → ℕ
capped price = min price most_price

-- the plan is valid, and no valid plan is better where each tip used costs the price: pairs(other) + price · tips(ours) is at most
-- pairs(ours) + price · tips(other)
pub record ExactShared (price m : ℕ) (qs sets plan : List ℕ) : Type 0 where
  pub valid : Valid sets plan
  pub best : {other : List ℕ} → Valid sets other
      → pairs (repeated qs other) + price * tips_used m plan ≤ pairs (repeated qs plan) + price * tips_used m other

-- no valid plan uses fewer tips, and none that uses as few has more pairs
pub record FewestTips (m : ℕ) (qs sets plan : List ℕ) : Type 0 where
  pub fewest : {other : List ℕ} → Valid sets other → tips_used m plan ≤ tips_used m other
  pub most : {other : List ℕ} → Valid sets other → tips_used m other ≤ tips_used m plan
      → pairs (repeated qs other) ≤ pairs (repeated qs plan)
