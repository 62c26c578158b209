use Rattle.std.proofs.Common.{rules, length}
use Rattle.head.specs.OnHead.{on_head}
use Rattle.refusal.specs.Reasons.{refusal_of, count_in}
use Rattle.order_rules.proofs.TipCall.{tips_rule}
use Rattle.placing.specs.ByTips.{PlacedByTips}
use Rattle.placing.proofs.CasesTold.{parts_by_tips_told}
use Rattle.placing.proofs.order_by_tips.Goals as goal

pub returns-clause-rule : goal.returns-clause-rule
returns-clause-rule c =
    let a = c.args in
    let b = c.place_by_tips in
    let p : PlacedByTips a.parts.now a.rules.now a.plan.now (on_head a.mounted) a.order.now b.new.order (refusal_of b.result) (count_in b.result) =
    search rules in
    rw (p.refusal, p.order, p.changes) (tips_rule a.parts.now a.rules.now a.plan.now (on_head a.mounted) a.order.now)

pub returns-clause-cases : goal.returns-clause-cases
returns-clause-cases c =
    let a = c.args in
    let b = c.place_by_tips in
    let p : PlacedByTips a.parts.now a.rules.now a.plan.now (on_head a.mounted) a.order.now b.new.order (refusal_of b.result) (count_in b.result) =
    search rules in
    parts_by_tips_told a.plan.now (on_head a.mounted) (length a.order.now) a.parts.now a.rules.now p.refusal
