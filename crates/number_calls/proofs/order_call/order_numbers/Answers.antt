use Rattle.std.proofs.Common.{rules}
use Rattle.refusal.proofs.Laws.{reason_not_0, told_err}
use Rattle.number_calls.proofs.Numbered.{misfit, fit_answer, parts_given, rules_given}
use Rattle.number_calls.proofs.CasesTold.{numbers_told}
use Rattle.number_calls.proofs.order_call.order_numbers.Goals as goal

pub returns-in_err-records : goal.returns-in_err-records
returns-in_err-records c =
    let a = c.args in
    let e = told_err c.from_residual.result c.in_err-records.field-0.0 c.from_residual.ensures in
    let x = misfit a.parts.now a.rules.now a.order.now c.in_err-records.ensures.refusal (reason_not_0 _) in
    rw e (record { refusal = x.refusal; order = x.order; rule = x.rule; cases = numbers_told a.parts.now a.rules.now _ x.refusal })

pub returns : goal.returns
returns c =
    let a = c.args in
    let p = c.place.ensures _ (parts_given a.parts.now c.in_ok-records.ensures.parts (λ i r h q. search rules))
    _ (rules_given a.rules.now c.in_ok-records.ensures.rules (λ i r h q. search rules)) in
    let x = fit_answer a.parts.now a.rules.now a.order.now c.in_ok-records.ensures.refusal p in
    record { refusal = x.refusal; order = x.order; rule = x.rule; cases = numbers_told a.parts.now a.rules.now _ x.refusal }
