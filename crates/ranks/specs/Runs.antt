-- Lines that are runs of the named tips, on the board and renumbered.
-- For proofs and leaf contracts: no call's contract speaks of these.
use Rattle.std.specs.Prelude.{ℕ, ◌<◌, ◌≡◌, List, T}
use Rattle.model.specs.Count.{All}
use Rattle.model.specs.Interval.{is_run, named, is_run_of}
use Rattle.model.specs.Renumber.{names}
use Rattle.placements.specs.Good.{GoodLines}

-- each line is a run of the tips that they name; set has these
pub record RunsOf (set : ℕ) (lines : List ℕ) : Type 0 where
  pub runs : All (λ s. T (is_run_of (named lines) s)) lines
  pub all : set ≡ names lines

-- good lines, each a run of the named tips
pub record NamedRuns (m : ℕ) (qs sets : List ℕ) : Type 0 where
  pub good : GoodLines m qs sets
  pub runs : All (λ s. T (is_run_of (named sets) s)) sets

-- good lines, each an unbroken run, in a rack of which each tip is named
pub record FullRuns (m : ℕ) (qs sets : List ℕ) : Type 0 where
  pub good : GoodLines m qs sets
  pub runs : All (λ s. T (is_run s)) sets
  pub full : (t : ℕ) → t < m → T (named sets t)
