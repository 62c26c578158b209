-- What is counted in the plan along the list.
use Rattle.std.specs.Prelude.{ℕ, List}
use Rattle.model.specs.Plan.{pairs}
use Rattle.model.specs.Choice.{Mounted}
use Rattle.placements.specs.Repeated.{repeated}
use Rattle.along.specs.Along.{fewest, plan_along}
use Rattle.along.specs.declared.AlongCounts.{AlongCounts}

-- its changes by lines, and its pairs by placements
unfoldable pub counts_of : Mounted → List ℕ → List ℕ → AlongCounts
counts_of on qs lines = record { changes = fewest on lines; pairs = pairs (repeated qs (plan_along on lines)) }
