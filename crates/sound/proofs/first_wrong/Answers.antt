use native.Mathlib.Omega.{arith}
use mathlib.Core.Path.{sym, ◌∙◌}
use Rattle.model.proofs.Fails.{found_place, no_place}
use Rattle.sound.proofs.First.{wrong_set, wrong_quantity, wrong_total, wrong_next, wrong_end}
use Rattle.sound.proofs.first_wrong.Goals.{then-not-is_domain-via-then-not-is_domain, then-not-is_domain-via-else-not-is_domain+then-quantity-eq0}
use Rattle.sound.proofs.first_wrong.Goals.{then-not-is_domain-via-else-not-is_domain+else-quantity-eq0+then-left-quantity}
use Rattle.sound.proofs.first_wrong.Goals as goal

pub returns-then-not-is_domain : goal.returns-then-not-is_domain
returns-then-not-is_domain c =
    let w = c.loop-line.invariant in
    found_place (omega arith) (elim c.then-not-is_domain.branch [
      | then-not-is_domain-via-then-not-is_domain b ↦ wrong_set _ _ _ w (omega arith) (sym c.is_domain.ensures ∙ b.if-not-is_domain.true)
      | then-not-is_domain-via-else-not-is_domain+then-quantity-eq0 b ↦
          wrong_quantity _ _ _ w (omega arith) c.from-quantity.ensures b.if-quantity-eq0.true
      | then-not-is_domain-via-else-not-is_domain+else-quantity-eq0+then-left-quantity b ↦
          wrong_total _ _ _ w (omega arith) c.from-quantity.ensures b.if-left-quantity.true
    ])

pub loop-line-preserved : goal.loop-line-preserved
loop-line-preserved c =
    wrong_next _ _ _ c.loop-line.invariant (omega arith) c.from-quantity.ensures (omega arith) (sym c.is_domain.ensures ∙ c.if-not-is_domain.false)
    c.if-quantity-eq0.false c.if-left-quantity.false

pub returns : goal.returns
returns c = no_place (wrong_end _ _ _ c.loop-line.invariant (omega arith) (omega arith)) (omega arith)
