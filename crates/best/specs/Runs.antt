-- The lines of best sharing, renumbered, and the buffers for them.
-- For proofs and leaf contracts: no call's contract speaks of these.
use Rattle.std.specs.Prelude.{ℕ, ◌*◌, ◌≤◌, ◌<◌, ◌≡◌, List, [], length, take}
use Rattle.model.specs.Plan.{has}
use Rattle.model.specs.Interval.{named, table as table_of}
use Rattle.model.specs.Renumber.{names as names_of, rank, renumbered}
use Rattle.placements.specs.Repeated.{repeated}
use Rattle.ranks.specs.Runs.{NamedRuns, FullRuns}

-- unbroken runs in a rack of r tips that name each of them, or no line where it has no tip; a plan of as many lines, and room for a table
pub record Ranked (r : ℕ) (qs sets plan table : List ℕ) : Type 0 where
  pub runs : 0 < r → FullRuns r qs sets
  pub none : r ≡ 0 → sets ≡ []
  pub size : length plan ≡ length sets
  pub room : r * r ≤ length table

-- runs of the named tips of a rack, the set of these tips, and a plan of as many lines
pub record PlanLent (names m : ℕ) (qs sets plan : List ℕ) : Type 0 where
  pub runs : NamedRuns m qs sets
  pub named : names ≡ names_of sets
  pub lines : length plan ≡ length sets

-- the places of a table by the ranks of the tips of a set that are below m
abbrev pub rank_places : ℕ → ℕ → ℕ
rank_places set m = rank (has set) m * rank (has set) m

-- the table of the lines renumbered is at the front
abbrev pub TableByRanks : ℕ → List ℕ → List ℕ → List ℕ → Type 0
TableByRanks m qs sets table =
    let r = rank (named sets) m in
    take (r * r) table ≡ table_of r (repeated qs (renumbered (named sets) m sets))
