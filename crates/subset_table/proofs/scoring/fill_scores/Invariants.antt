use Rattle.subset_table.specs.Scores.{Filling}
use Rattle.subset_table.proofs.scoring.fill_scores.Given as goal

abbrev pub invariant-loop-u : goal.invariant-loop-u
invariant-loop-u l = Filling l.price l.m l.counts l.u l.scores
