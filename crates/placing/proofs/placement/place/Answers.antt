use Rattle.std.proofs.Common.{◌<◌, length, arith}
use Rattle.order_rules.proofs.Refused.{over}
use Rattle.placing.proofs.Answers.{placed_given}
use Rattle.placing.proofs.placement.place.Goals as goal

pub returns-then-n-gt-MOST_PARTS : goal.returns-then-n-gt-MOST_PARTS
returns-then-n-gt-MOST_PARTS g c =
    λ parts p rules r.
    let many : 128 < length parts = omega (arith, p.size, c.if-n-gt-MOST_PARTS.true) in
    rw c.at.ensures (placed_given parts rules c.args.order.now (over parts rules (length c.args.order.now) many) (λ z. omega (arith, z)))
