-- What the answers mean for all valid plans by lines, counted in placements.
use Rattle.std.specs.Prelude.{ℕ, ◌+◌, ◌≤◌, ◌≡◌, List, ◌++◌, length, drop}
use Rattle.model.specs.Plan.{occ}
use Rattle.placements.specs.Repeated.{repeated}
use Rattle.placements.specs.Good.{GoodLines}
use Rattle.placements.specs.Keep.{LeastOffQ}
use Rattle.line_calls.specs.Rules.{HalfRule}
use Rattle.line_calls.specs.Table.{MostPairs}

-- the lines of a panel are those of the first board and then those of the second, and good: occurrences add, the least off count is at least the sum
-- of the two, and so are the pairs of the best plans
pub record PanelRule (m : ℕ) (qs lines rs others both-qs both : List ℕ) : Type 0 where
  pub good : GoodLines m both-qs both
  pub lines_are : both ≡ lines ++ others
  pub quantities_are : both-qs ≡ qs ++ rs
  pub occurrences : (t : ℕ) → occ (repeated both-qs both) t ≡ occ (repeated qs lines) t + occ (repeated rs others) t
  pub off : (x y z : ℕ) → LeastOffQ m qs lines x → LeastOffQ m rs others y → LeastOffQ m both-qs both z → x + y ≤ z
  pub best : (x y z : ℕ) → MostPairs qs lines x → MostPairs rs others y → MostPairs both-qs both z → x + y ≤ z

-- each plan keeps the half rule of its own lines, as its bytes stand in the buffer: the second from the first's line count on
pub record AloneRule (qs lines rs others buffer : List ℕ) (number first second : ℕ) : Type 0 where
  pub first_half : HalfRule qs lines buffer number first
  pub second_half : HalfRule rs others (drop (length lines) buffer) number second
