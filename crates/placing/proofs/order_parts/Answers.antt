use Rattle.std.proofs.Common.{rules, length}
use Rattle.order_rules.proofs.Ruling.{placing_rule}
use Rattle.refusal.specs.Reasons.{refusal_of}
use Rattle.placing.specs.Rows.{Placed}
use Rattle.placing.proofs.CasesTold.{parts_told}
use Rattle.placing.proofs.order_parts.Goals as goal

pub returns-clause-rule : goal.returns-clause-rule
returns-clause-rule c =
    let a = c.args in
    let p : Placed a.parts.now a.rules.now a.order.now c.place.new.order (refusal_of c.place.result) = search rules in
    rw (p.refusal, p.order) (placing_rule a.parts.now a.rules.now a.order.now)

pub returns-clause-cases : goal.returns-clause-cases
returns-clause-cases c =
    let a = c.args in
    let p : Placed a.parts.now a.rules.now a.order.now c.place.new.order (refusal_of c.place.result) = search rules in
    parts_told a.parts.now a.rules.now (length a.order.now) p.refusal
