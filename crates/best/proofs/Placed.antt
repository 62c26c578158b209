-- Best sharing of unbroken runs that name every tip: it is counted over the placements, where any tip may be chosen, and laid for the lines.
use Prim.Native.Nat.{ℕ}
use mathlib.Core.Path.{◌≡◌}
use mathlib.Core.List.{List}
use Rattle.model.specs.Choice.{Mounted}
use Rattle.model.specs.Interval.{any, plan_for}
use Rattle.model.proofs.RenumberFull.{plan_full}
use Rattle.placements.specs.Repeated.{repeated}
use Rattle.placements.specs.Plans.{best_plan_q}
use Rattle.placements.proofs.Named.{named-repeated}
use Rattle.ranks.specs.Runs.{FullRuns}

module _ {m : ℕ} {qs sets : List ℕ} (f : FullRuns m qs sets) where
  -- the plan by the placements, where any tip may be chosen, is the best plan: the placements name each tip too
  pub plan_placed : (mounted : Mounted) → plan_for mounted any m (repeated qs sets) sets ≡ best_plan_q mounted m qs sets
  unfolding best_plan_q
  plan_placed mounted =
      plan_full mounted (repeated qs sets) m (λ t l. rw (named-repeated f.good.placed sets f.good.same t) (f.full t l)) sets
