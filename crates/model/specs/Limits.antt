-- The limits of a board, and of what is counted on it.
use Rattle.std.specs.Prelude.{ℕ, ◌*◌, ◌-◌, ◌/◌, ◌≤◌, List, length}
use Rattle.model.specs.Count.{All}
use Rattle.model.specs.Plan.{Domain}

-- the most tips of a rack
abbrev pub most_tips : ℕ
most_tips = 64

-- the most lines of a board
abbrev pub most_lines : ℕ
most_lines = 512

-- the most placements of a board: the sum of its lines' quantities
abbrev pub most_placements : ℕ
most_placements = 2048

-- the most pairs of a plan: those of all placements on one tip
abbrev pub most_pairs : ℕ
most_pairs = most_placements * (most_placements - 1) / 2

-- good placements in a rack of m tips, each given by the set of its line: each has a tip, and none outside the rack
pub record GoodPlacements (m : ℕ) (lines : List ℕ) : Type 0 where
  pub some : 1 ≤ m
  pub most : m ≤ most_tips
  pub few : length lines ≤ most_placements
  pub domains : All (Domain m) lines
