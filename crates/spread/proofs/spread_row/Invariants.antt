use Rattle.std.proofs.Common.{◌≡◌, ◌≤◌, ℕ, List}
use Rattle.model.specs.Plan.{has}
use Rattle.model.specs.Renumber.{rank}
use Rattle.spread.specs.Spread.{RowDone}
use Rattle.spread.proofs.spread_row.Given as goal

-- the places of row a from b on are spread; end named tips are below b
pub record From (set m r a b end : ℕ) (old table : List ℕ) : Type 0 where
  pub few : b ≤ m
  pub below : end ≡ rank (has set) b
  pub done : RowDone set m r a b old table

abbrev pub invariant-loop-b : goal.invariant-loop-b
invariant-loop-b l = From l.ranking.set l.ranking.m l.ranking.count l.a l.b l.end l.initial.table l.table
