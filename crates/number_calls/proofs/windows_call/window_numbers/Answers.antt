use Rattle.std.proofs.Common.{rules}
use Rattle.refusal.proofs.Laws.{reason_not_0, number_not, told_err}
use Rattle.number_calls.proofs.Numbered.{misfit_in, parts_given, rules_given}
use Rattle.number_calls.proofs.CasesTold.{numbers_told}
use Rattle.part_windows.specs.Call.{room}
use Rattle.number_calls.proofs.Windowed.{misfit_buffers, fit_answer}
use Rattle.number_calls.proofs.windows_call.window_numbers.Goals as goal

pub returns-in_err-records : goal.returns-in_err-records
returns-in_err-records c =
    let a = c.args in
    let e = told_err c.from_residual.result c.in_err-records.field-0.0 c.from_residual.ensures in
    let told = c.in_err-records.ensures.refusal in
    let refusal = misfit_in a.parts.now a.rules.now (room a.first.now a.last.now) told (reason_not_0 _) in
    let buffers = misfit_buffers a.parts.now a.rules.now a.first.now a.last.now told (reason_not_0 _) in
    rw e (record {
      refusal = refusal;
      first = buffers.0;
      last = buffers.1;
      rule = λ z. absurd (number_not told (reason_not_0 _) z);
      cases = numbers_told a.parts.now a.rules.now _ refusal;
    })

pub returns : goal.returns
returns c =
    let a = c.args in
    let p = c.place_windows.ensures _ (parts_given a.parts.now c.in_ok-records.ensures.parts (λ i r h q. search rules))
    _ (rules_given a.rules.now c.in_ok-records.ensures.rules (λ i r h q. search rules)) in
    let x = fit_answer a.parts.now a.rules.now a.first.now a.last.now c.in_ok-records.ensures.refusal p in
    record { refusal = x.refusal; first = x.firsts; last = x.lasts; rule = x.rule; cases = numbers_told a.parts.now a.rules.now _ x.refusal }
