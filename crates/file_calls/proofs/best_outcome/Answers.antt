use mathlib.Core.Path.{◌≡◌, refl}
use Rattle.std.proofs.Common.{rules, Err}
use Rattle.head.specs.OnHead.{on_head}
use Rattle.file_calls.proofs.Left.{best_few, best_entries, best_checked}
use Rattle.file_calls.proofs.Stopped.{best_read}
use Rattle.file_calls.proofs.ReadLines.{best-in}
use Rattle.file_calls.proofs.CasesTold.{best_told}
use Rattle.file_calls.proofs.best_outcome.Goals as goal

pub returns-in_err-lines : goal.returns-in_err-lines
returns-in_err-lines c =
    let a = c.args in
    let e = c.in_err-lines.field-0.0 in
    let same : c.from_residual.result ≡ Err e = search rules in
    let (outcome, (plan, (table, rule))) = best_read a.file.now e c.in_err-lines.ensures.refusal (on_head a.mounted) a.plan.now a.table.now in
    let told = best_told a.file.now (on_head a.mounted) _ _ outcome in
    rw same (record {
      outcome = outcome;
      plan = plan;
      table = table;
      rule = rule;
      few = best_few a.file.now (on_head a.mounted) a.plan.now a.table.now outcome;
      entries = best_entries a.file.now (on_head a.mounted) a.plan.now a.table.now outcome table;
      checked = best_checked a.file.now (on_head a.mounted) a.plan.now a.table.now outcome table plan;
      cases = told;
    })

pub returns-in_err-pairs : goal.returns-in_err-pairs
returns-in_err-pairs c =
    let a = c.args in
    let e = c.in_err-pairs.field-0.0 in
    let same : c.from_residual-in_err-pairs.result ≡ Err e = search rules in
    let read = c.in_ok-lines.ensures in
    let laid = c.in_err-pairs.ensures in
    let (outcome, (plan, (table, rule))) =
    best-in a.file.now read.refusal (λ _. (read.rack, read.quantities, read.sets))
    (on_head a.mounted) refl a.plan.now a.table.now
    laid.answer laid.plan laid.table laid.rule in
    let told = best_told a.file.now (on_head a.mounted) _ _ outcome in
    rw same (record {
      outcome = outcome;
      plan = plan;
      table = table;
      rule = rule;
      few = best_few a.file.now (on_head a.mounted) a.plan.now a.table.now outcome;
      entries = best_entries a.file.now (on_head a.mounted) a.plan.now a.table.now outcome table;
      checked = best_checked a.file.now (on_head a.mounted) a.plan.now a.table.now outcome table plan;
      cases = told;
    })

pub returns : goal.returns
returns c =
    let a = c.args in
    let read = c.in_ok-lines.ensures in
    let laid = c.in_ok-pairs.ensures in
    let (outcome, (plan, (table, rule))) =
    best-in a.file.now read.refusal (λ _. (read.rack, read.quantities, read.sets))
    (on_head a.mounted) refl a.plan.now a.table.now
    laid.answer laid.plan laid.table laid.rule in
    let told = best_told a.file.now (on_head a.mounted) _ _ outcome in
    rw (c.one.ensures, c.from.ensures) (record {
      outcome = outcome;
      plan = plan;
      table = table;
      rule = rule;
      few = best_few a.file.now (on_head a.mounted) a.plan.now a.table.now outcome;
      entries = best_entries a.file.now (on_head a.mounted) a.plan.now a.table.now outcome table;
      checked = best_checked a.file.now (on_head a.mounted) a.plan.now a.table.now outcome table plan;
      cases = told;
    })
