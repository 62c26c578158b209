-- Placements by the tips that they are on.
use Rattle.std.specs.Prelude.{ℕ, List}
use Rattle.model.specs.Limits.{most_tips}
use Rattle.model.specs.Count.{list_of}
use Rattle.model.specs.Plan.{uses}

-- how many placements of a plan are on each tip of the largest rack
unfoldable pub on_tips : List ℕ → List ℕ
on_tips placed = list_of (uses placed) most_tips
