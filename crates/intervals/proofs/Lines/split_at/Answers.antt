use Rattle.std.proofs.Common.{arith}
use Rattle.intervals.specs.Splits.{split_by}
use Rattle.intervals.proofs.Lines.split_at.Goals as goal

pub returns-clause-split : goal.returns-clause-split
unfolding split_by
returns-clause-split c = omega arith
