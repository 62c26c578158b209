use mathlib.Core.Path.{◌≡◌, refl, ◌∙◌}
use lib.Seq.{length-take-le}
use Rattle.std.proofs.Common.{rules, Err}
use Rattle.model.proofs.Lists.{all_get_d}
use Rattle.refusal.specs.Refusal.{none}
use Rattle.file_calls.proofs.GoalFile.{goal-in, struck-all, good-struck, goal-ruled, goal-refused}
use Rattle.file_calls.proofs.Stopped.{goal_read}
use Rattle.file_calls.proofs.CasesTold.{goal_told}
use Rattle.file_calls.proofs.goal_call.goal_outcome.Goals as goal

pub returns-in_err-lines : goal.returns-in_err-lines
returns-in_err-lines c =
    let a = c.args in
    let e = c.in_err-lines.field-0.0 in
    let same : c.from_residual.result ≡ Err e = search rules in
    let (outcome, out) = goal_read a.file.now e c.in_err-lines.ensures.refusal a.goal a.out.now in
    let bytes = all_get_d 0 a.file.now (λ i l. (c.type_inv.file i).fits) in
    let told = goal_told a.file.now a.goal _ outcome in
    rw same (record { outcome = outcome; out = out; rule = goal-ruled a.file.now a.goal a.out.now bytes outcome out; cases = told })

pub returns-in_err-goal : goal.returns-in_err-goal
returns-in_err-goal c =
    let a = c.args in
    let e = c.in_err-goal.field-0.0 in
    let same : c.from_residual-in_err-goal.result ≡ Err e = search rules in
    let read = c.in_ok-lines.ensures in
    let (outcome, out) =
    goal-refused a.file.now read.refusal (λ _. c.in_ok-lines.lines.good) (λ _. (read.rack, read.quantities, read.sets)) a.goal a.out.now e
    c.in_err-goal.ensures.answer in
    let bytes = all_get_d 0 a.file.now (λ i l. (c.type_inv.file i).fits) in
    let told = goal_told a.file.now a.goal _ outcome in
    rw same (record { outcome = outcome; out = out; rule = goal-ruled a.file.now a.goal a.out.now bytes outcome out; cases = told })

pub invariant_of-left : goal.invariant_of-left
invariant_of-left c =
    let l = c.in_ok-lines.lines in
    let struck = c.in_ok-goal.ensures in
    let all = struck-all none (λ _. l.good) c.args.goal struck.answer refl _ (length-take-le _ _ (search rules) ∙ c.len.ensures) struck.sets in
    record { good = rw all (good-struck none (λ _. l.good) c.args.goal struck.answer refl) }

pub returns-in_err-bytes : goal.returns-in_err-bytes
returns-in_err-bytes c =
    let a = c.args in
    let e = c.in_err-bytes.field-0.0 in
    let same : c.from_residual-in_err-bytes.result ≡ Err e = search rules in
    let read = c.in_ok-lines.ensures in
    let good = c.in_ok-lines.lines.good in
    let struck = c.in_ok-goal.ensures in
    let all = struck-all none (λ _. good) a.goal struck.answer refl _ (length-take-le _ _ (search rules) ∙ c.len.ensures) struck.sets in
    let written = c.in_err-bytes.ensures in
    let (outcome, out) =
    goal-in a.file.now read.refusal (λ _. good) (λ _. (read.rack, read.quantities, read.sets)) a.goal struck.answer (λ _. all) a.out.now
    written.answer written.buffer in
    let bytes = all_get_d 0 a.file.now (λ i l. (c.type_inv.file i).fits) in
    let told = goal_told a.file.now a.goal _ outcome in
    rw same (record { outcome = outcome; out = out; rule = goal-ruled a.file.now a.goal a.out.now bytes outcome out; cases = told })

pub returns : goal.returns
returns c =
    let a = c.args in
    let read = c.in_ok-lines.ensures in
    let good = c.in_ok-lines.lines.good in
    let struck = c.in_ok-goal.ensures in
    let all = struck-all none (λ _. good) a.goal struck.answer refl _ (length-take-le _ _ (search rules) ∙ c.len.ensures) struck.sets in
    let written = c.in_ok-bytes.ensures in
    let (outcome, out) =
    goal-in a.file.now read.refusal (λ _. good) (λ _. (read.rack, read.quantities, read.sets)) a.goal struck.answer (λ _. all) a.out.now
    written.answer written.buffer in
    let bytes = all_get_d 0 a.file.now (λ i l. (c.type_inv.file i).fits) in
    let told = goal_told a.file.now a.goal _ outcome in
    rw c.one.ensures (record { outcome = outcome; out = out; rule = goal-ruled a.file.now a.goal a.out.now bytes outcome out; cases = told })
