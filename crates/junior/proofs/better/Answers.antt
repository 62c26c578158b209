use Rattle.std.proofs.Common.{arith, ap}
use Rattle.junior.specs.Found.{score_is}
use Rattle.junior.proofs.better.Goals as goal

pub returns-in_default-clause-stays : goal.returns-in_default-clause-stays
unfolding score_is
returns-in_default-clause-stays c = λ l. absurd (omega (arith, ap score_is c.in_default.is))

pub returns-then-old-next-clause-stays : goal.returns-then-old-next-clause-stays
unfolding score_is
returns-then-old-next-clause-stays c = λ l. absurd (omega (arith, ap score_is c.in-Some.is))

pub returns-else-old-next-clause-moves : goal.returns-else-old-next-clause-moves
unfolding score_is
returns-else-old-next-clause-moves c = λ l. absurd (omega (arith, ap score_is c.in-Some.is))
