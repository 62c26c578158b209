use Rattle.std.proofs.Common.{◌≡◌, ◌≤◌, ℕ, List}
use Rattle.model.specs.Plan.{has}
use Rattle.model.specs.Renumber.{rank}
use Rattle.spread.specs.Spread.{RowsDone}
use Rattle.spread.proofs.spread_table.Given as goal

-- the rows from a on are spread; first named tips are below a
pub record From (set m r a first : ℕ) (old table : List ℕ) : Type 0 where
  pub few : a ≤ m
  pub below : first ≡ rank (has set) a
  pub done : RowsDone set m r a old table

abbrev pub invariant-loop-a : goal.invariant-loop-a
invariant-loop-a l = From l.ranking.set l.ranking.m l.ranking.count l.a l.first l.initial.table l.table
