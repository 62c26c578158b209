use Rattle.std.proofs.Common.{rules}
use Rattle.head.specs.OnHead.{on_head}
use Rattle.refusal.proofs.Laws.{err_of, reason_not_0}
use Rattle.number_calls.proofs.Numbered.{parts_given, rules_given}
use Rattle.number_calls.proofs.TipNumbered.{misfit, fit_answer}
use Rattle.number_calls.proofs.CasesTold.{numbers_by_tips_told}
use Rattle.number_calls.proofs.order_by_tips_call.order_by_tips.Goals as goal

pub returns-in_err-records : goal.returns-in_err-records
returns-in_err-records c =
    let a = c.args in
    let x = misfit a.parts.now a.rules.now a.plan.now (on_head a.mounted) a.order.now c.in_err-records.ensures.refusal (reason_not_0 _) in
    let told = numbers_by_tips_told a.plan.now (on_head a.mounted) _ a.parts.now a.rules.now x.refusal in
    rw (err_of c.from_residual.result _ c.from_residual.ensures)
    (record { refusal = x.refusal; order = x.order; changes = x.changes; rule = x.rule; cases = told })

pub returns : goal.returns
returns c =
    let a = c.args in
    let p = c.place_by_tips.ensures _ (parts_given a.parts.now c.in_ok-records.ensures.parts (λ i r h q. search rules))
    _ (rules_given a.rules.now c.in_ok-records.ensures.rules (λ i r h q. search rules)) in
    let x = fit_answer a.parts.now a.rules.now a.plan.now (on_head a.mounted) a.order.now c.in_ok-records.ensures.refusal p in
    let told = numbers_by_tips_told a.plan.now (on_head a.mounted) _ a.parts.now a.rules.now x.refusal in
    record { refusal = x.refusal; order = x.order; changes = x.changes; rule = x.rule; cases = told }
