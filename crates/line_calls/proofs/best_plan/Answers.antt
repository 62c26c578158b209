use mathlib.Core.Path.{refl, sym, ap, ◌∙◌}
use lib.Seq.{length-take-le}
use Rattle.std.proofs.Common.{◌*◌, length}
use Rattle.refusal.specs.Refusal.{none}
use Rattle.refusal.proofs.Laws.{err_of, reason_not_0}
use Rattle.head.specs.OnHead.{on_head}
use Rattle.call_refusals.specs.Calls.{mounted_refusal}
use Rattle.call_refusals.proofs.Calls.{best_none}
use Rattle.line_calls.proofs.Plans.{best_later, best_as, best-plan_refused, best-plan_accepted}
use Rattle.line_calls.proofs.best_plan.Goals as goal

-- a mounted tip outside the rack refuses the call before the lines are looked at
pub returns-in_err-mounted_refusal : goal.returns-in_err-mounted_refusal
returns-in_err-mounted_refusal c =
    let a = c.args in
    let e = c.in_err-mounted_refusal.field-0.0 in
    let same = err_of _ e c.from_residual.ensures in
    let n = reason_not_0 e.reason in
    let asked = c.in_err-mounted_refusal.ensures in
    let (answer, (plan, rule)) =
    best-plan_refused (mounted_refusal none a.lines.rack (on_head a.mounted)) a.lines.rack (on_head a.mounted) a.lines.quantities.now a.lines.sets.now
    a.plan.now (a.lines.rack * a.lines.rack)
    (best_later asked n a.lines.rack a.lines.sets.now (length a.plan.now) (a.lines.rack * a.lines.rack)) n in
    rw same (record { answer = answer; plan = plan; rule = rule })

pub returns-in_err-best_refusal : goal.returns-in_err-best_refusal
returns-in_err-best_refusal c =
    let a = c.args in
    let e = c.in_err-best_refusal.field-0.0 in
    let same = err_of _ e c.from_residual-in_err-best_refusal.ensures in
    let (answer, (plan, rule)) =
    best-plan_refused (mounted_refusal none a.lines.rack (on_head a.mounted)) a.lines.rack (on_head a.mounted) a.lines.quantities.now a.lines.sets.now
    a.plan.now (a.lines.rack * a.lines.rack)
    (best_as a.lines.rack a.lines.sets.now (length a.plan.now) (a.lines.rack * a.lines.rack) c.in_err-best_refusal.ensures
    c.in_ok-mounted_refusal.ensures)
    (reason_not_0 e.reason) in
    rw same (record { answer = answer; plan = plan; rule = rule })

pub slice_bounds-plan_without_table-end : goal.slice_bounds-plan_without_table-end
slice_bounds-plan_without_table-end c =
    rw c.len-count.ensures (best_none none _ _ _ _ (ap (λ r. r.number) (sym c.in_ok-best_refusal.ensures))).bytes

pub slice_bounds-plan_without_table-end-2 : goal.slice_bounds-plan_without_table-end-2
slice_bounds-plan_without_table-end-2 c =
    let room = (best_none none _ _ _ _ (ap (λ r. r.number) (sym c.in_ok-best_refusal.ensures))).bytes in
    rw c.len-count.ensures (sym (length-take-le _ _ room))

pub plan_without_table-requires-clause-runs : goal.plan_without_table-requires-clause-runs
plan_without_table-requires-clause-runs c =
    let free = best_none none _ _ _ _ (ap (λ r. r.number) (sym c.in_ok-best_refusal.ensures)) in
    rw c.copy_sets.ensures (record { good = c.args.lines.good; runs = free.runs })

pub plan_without_table-requires-clause-lines : goal.plan_without_table-requires-clause-lines
plan_without_table-requires-clause-lines c =
    let free = best_none none _ _ _ _ (ap (λ r. r.number) (sym c.in_ok-best_refusal.ensures)) in
    length-take-le _ _ (rw (← c.len-count.ensures) at free.bytes) ∙ c.len-count.ensures ∙ sym (ap length c.copy_sets.ensures)

pub returns : goal.returns
returns c =
    let a = c.args in
    let laid = c.plan_without_table.ensures in
    let same = c.copy_sets.ensures in
    let (answer, (plan, rule)) =
    best-plan_accepted (mounted_refusal none a.lines.rack (on_head a.mounted)) a.lines.rack (on_head a.mounted) a.lines.quantities.now
    a.lines.sets.now a.plan.now (a.lines.rack * a.lines.rack)
    (best_as a.lines.rack a.lines.sets.now (length a.plan.now) (a.lines.rack * a.lines.rack) c.in_ok-best_refusal.ensures
    c.in_ok-mounted_refusal.ensures)
    refl a.lines.good c.len-count.ensures
    (rw same at laid.pairs) (rw same at laid.plan) in
    record { answer = answer; plan = plan; rule = rule }
