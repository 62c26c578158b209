use Rattle.std.proofs.Common.{◌≡◌, ◌≤◌, ℕ, List}
use Rattle.model.specs.Plan.{has}
use Rattle.model.specs.Renumber.{rank}
use Rattle.ranks.specs.Listed.{Ranks, Named}
use Rattle.ranks.proofs.list_tips.Given as goal

-- the tips below t are listed, r of them
pub record Below (set t r : ℕ) (ranks named : List ℕ) : Type 0 where
  pub size : r ≡ rank (has set) t
  pub few : r ≤ t
  pub ranked : Ranks (has set) t ranks
  pub listed : Named (has set) t named

abbrev pub invariant-loop-t : goal.invariant-loop-t
invariant-loop-t l = Below l.set l.t l.r l.ranks l.named
