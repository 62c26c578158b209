-- A segment over slices: from a place of the lists on.
use Rattle.std.specs.Prelude.{ℕ, ◌+◌, ◌-◌, ◌≡◌, List, ◌++◌, length, take, drop, replicate}
use Rattle.model.specs.Limits.{most_tips}
use Rattle.model.specs.Count.{All}
use Rattle.model.specs.Plan.{Domain}
use Rattle.model.specs.Interval.{low}
use Rattle.along.specs.Along.{final, reach}
use Rattle.along.specs.declared.Segment.{Segment}

-- the segment that starts at a place with the common tips k
unfoldable pub segment_at : List ℕ → ℕ → ℕ → Segment
segment_at sets from k = record { end = from + reach k (drop from sets); common = final k (drop from sets) }

-- a plan with tip t from a place to before an end
unfoldable pub filled : ℕ → ℕ → ℕ → List ℕ → List ℕ
filled from end t plan = take from plan ++ (replicate (end - from) t ++ drop end plan)

-- a plan with the lines of the segment on its lowest common tip
unfoldable pub laid : List ℕ → ℕ → ℕ → List ℕ → List ℕ
laid sets from k plan = filled from (segment_at sets from k).end (low (segment_at sets from k).common) plan

-- each line has a tip, and the plan a place for each line
pub record Placeable (sets plan : List ℕ) : Type 0 where
  pub room : length plan ≡ length sets
  pub domains : All (Domain most_tips) sets
