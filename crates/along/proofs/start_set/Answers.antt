use Rattle.std.proofs.Common.{◌∙◌, arith}
use Rattle.along.proofs.Start.{start_all, start_none, start_one}
use Rattle.along.proofs.start_set.Goals as goal

pub returns-in-Some : goal.returns-in-Some
returns-in-Some c = rw c.in-Some.is (c.between.ensures ∙ start_one c.in-Some.on (omega arith))

pub returns-in-Some-2 : goal.returns-in-Some-2
returns-in-Some-2 c = rw c.in-Some.is (start_none c.in-Some.on (omega arith))

pub returns-in-None : goal.returns-in-None
returns-in-None c = rw c.in-None.is start_all
