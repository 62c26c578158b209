use borrow.Author.Tests.{eq-eqb, ne_eqb}
use Rattle.common_tip.specs.Common.{narrow_by}
use Rattle.common_tip.proofs.narrow.Goals as goal

pub returns-then-set-v : goal.returns-then-set-v
unfolding narrow_by
returns-then-set-v c = simp (eq-eqb _ _ c.if-set-v.true)

pub returns-else-set-v : goal.returns-else-set-v
unfolding narrow_by
returns-else-set-v c = simp (ne_eqb _ _ c.if-set-v.false)
