use Rattle.subset_table.proofs.Trying.{Trying}
use Rattle.subset_table.proofs.scoring.best_score.Given as goal

abbrev pub invariant-loop-rest : goal.invariant-loop-rest
invariant-loop-rest l = Trying l.price l.counts l.scores l.u l.rest l.best

abbrev pub decreases-loop-rest : goal.decreases-loop-rest
decreases-loop-rest l = l.rest
