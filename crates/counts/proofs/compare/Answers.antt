use borrow.Author.Tests.{eq-eqb, ne_eqb}
use Rattle.counts.specs.Counts.{compared}
use Rattle.counts.proofs.compare.Goals as goal

pub returns-then-bit-eq1 : goal.returns-then-bit-eq1
unfolding compared
returns-then-bit-eq1 c = simp (eq-eqb _ _ c.if-bit-eq1.true)

pub returns-else-bit-eq1 : goal.returns-else-bit-eq1
unfolding compared
returns-else-bit-eq1 c = simp (ne_eqb _ _ c.if-bit-eq1.false)
