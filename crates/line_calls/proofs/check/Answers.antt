use mathlib.Core.Path.{refl, sym, ap}
use lib.Seq.{length-take-le}
use Rattle.refusal.specs.Refusal.{none}
use Rattle.refusal.proofs.Laws.{err_of, reason_not_0}
use Rattle.call_refusals.proofs.Calls.{best_none}
use Rattle.line_calls.proofs.Checked.{check_first, check_next, check_rule}
use Rattle.line_calls.proofs.check.Goals as goal

pub returns-in_err-best_refusal : goal.returns-in_err-best_refusal
returns-in_err-best_refusal c =
    let a = c.args in
    let e = c.in_err-best_refusal.field-0.0 in
    let same = err_of _ e c.from_residual.ensures in
    let first =
    check_first none a.lines.rack a.lines.quantities.now a.lines.sets.now a.plan.now a.claim a.table.now
    c.in_err-best_refusal.ensures (reason_not_0 e.reason) in
    rw same (record {
      answer = first;
      rule = check_rule none a.lines.rack a.lines.quantities.now a.lines.sets.now a.plan.now a.claim a.table.now (λ _. c.args.lines.good) first;
    })

pub slice_bounds-check_plan-end : goal.slice_bounds-check_plan-end
slice_bounds-check_plan-end c =
    let room = (best_none none _ _ _ _ (ap (λ r. r.number) (sym c.in_ok-best_refusal.ensures))).bytes in
    rw c.len.ensures (sym (length-take-le _ _ room))

pub check_plan-requires-clause-named : goal.check_plan-requires-clause-named
check_plan-requires-clause-named c =
    let free = best_none none _ _ _ _ (ap (λ r. r.number) (sym c.in_ok-best_refusal.ensures)) in
    record { runs = free.runs; all = c.names_of.ensures }

pub check_plan-requires-clause-planned : goal.check_plan-requires-clause-planned
check_plan-requires-clause-planned c =
    let free = best_none none _ _ _ _ (ap (λ r. r.number) (sym c.in_ok-best_refusal.ensures)) in
    rw c.len.ensures (length-take-le _ _ free.bytes)

pub check_plan-requires-clause-cells : goal.check_plan-requires-clause-cells
check_plan-requires-clause-cells c = (best_none none _ _ _ _ (ap (λ r. r.number) (sym c.in_ok-best_refusal.ensures))).cells

pub returns : goal.returns
returns c =
    let a = c.args in
    let told =
    check_next none a.lines.rack a.lines.quantities.now a.lines.sets.now a.plan.now a.claim a.table.now
    c.in_ok-best_refusal.ensures refl c.len.ensures c.check_plan.ensures in
    record {
      answer = told;
      rule = check_rule none a.lines.rack a.lines.quantities.now a.lines.sets.now a.plan.now a.claim a.table.now (λ _. c.args.lines.good) told;
    }
