use Rattle.std.proofs.Common.{◌<◌, length, arith}
use Rattle.head.specs.OnHead.{on_head}
use Rattle.order_rules.proofs.Refused.{over}
use Rattle.placing.proofs.TipAnswers.{placed_given}
use Rattle.placing.proofs.by_tips.place_by_tips.Goals as goal

pub returns-then-n-gt-MOST_PARTS : goal.returns-then-n-gt-MOST_PARTS
returns-then-n-gt-MOST_PARTS g c =
    λ parts p rules r.
    let a = c.args in
    let many : 128 < length parts = omega (arith, p.size, c.if-n-gt-MOST_PARTS.true) in
    rw c.at.ensures (placed_given parts rules a.plan.now (on_head a.mounted) a.order.now (over parts rules (length a.order.now) many)
    (λ z. omega (arith, z)))
