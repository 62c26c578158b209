use mathlib.Core.Path.{refl, sym, ap, ◌∙◌}
use lib.ListN.{length}
use lib.Seq.{length-take-le}
use Rattle.refusal.specs.Refusal.{none}
use Rattle.refusal.proofs.Laws.{err_of, reason_not_0}
use Rattle.head.specs.OnHead.{on_head}
use Rattle.call_refusals.specs.Calls.{mounted_refusal}
use Rattle.call_refusals.proofs.Calls.{plan_none}
use Rattle.line_calls.proofs.Plans.{plan_later, plan_as, quick_refused, quick_accepted}
use Rattle.line_calls.proofs.quick.Goals as goal

-- a mounted tip outside the rack refuses the call before the lines are looked at
pub returns-in_err-mounted_refusal : goal.returns-in_err-mounted_refusal
returns-in_err-mounted_refusal c =
    let a = c.args in
    let e = c.in_err-mounted_refusal.field-0.0 in
    let same = err_of _ e c.from_residual.ensures in
    let n = reason_not_0 e.reason in
    let asked = c.in_err-mounted_refusal.ensures in
    let (answer, (plan, rule)) =
    quick_refused (mounted_refusal none a.lines.rack (on_head a.mounted)) a.lines.rack (on_head a.mounted) a.lines.quantities.now a.lines.sets.now
    a.plan.now
    {n = length a.lines.sets.now} (plan_later asked n (length a.lines.sets.now) (length a.plan.now)) (λ _. refl) n in
    rw same (record { answer = answer; plan = plan; rule = rule })

pub returns-in_err-plan_refusal : goal.returns-in_err-plan_refusal
returns-in_err-plan_refusal c =
    let a = c.args in
    let e = c.in_err-plan_refusal.field-0.0 in
    let same = err_of _ e c.from_residual-in_err-plan_refusal.ensures in
    let (answer, (plan, rule)) =
    quick_refused (mounted_refusal none a.lines.rack (on_head a.mounted)) a.lines.rack (on_head a.mounted) a.lines.quantities.now a.lines.sets.now
    a.plan.now
    (plan_as c.len-count.result (length a.plan.now) c.in_err-plan_refusal.ensures c.in_ok-mounted_refusal.ensures)
    (λ _. c.len-count.ensures) (reason_not_0 e.reason) in
    rw same (record { answer = answer; plan = plan; rule = rule })

pub slice_bounds-plan_lines-end : goal.slice_bounds-plan_lines-end
slice_bounds-plan_lines-end c = (plan_none none _ _ (ap (λ r. r.number) (sym c.in_ok-plan_refusal.ensures))).1

pub slice_bounds-plan_lines-end-2 : goal.slice_bounds-plan_lines-end-2
slice_bounds-plan_lines-end-2 c = sym (length-take-le _ _ (plan_none none _ _ (ap (λ r. r.number) (sym c.in_ok-plan_refusal.ensures))).1)

pub plan_lines-requires : goal.plan_lines-requires
plan_lines-requires c =
    let room = (plan_none none _ _ (ap (λ r. r.number) (sym c.in_ok-plan_refusal.ensures))).1 in
    record { good = c.args.lines.good; size = length-take-le _ _ room ∙ c.len-count.ensures }

pub returns : goal.returns
returns c =
    let a = c.args in
    let (answer, (plan, rule)) =
    quick_accepted (mounted_refusal none a.lines.rack (on_head a.mounted)) a.lines.rack (on_head a.mounted) a.lines.quantities.now
    a.lines.sets.now a.plan.now
    (plan_as c.len-count.result (length a.plan.now) c.in_ok-plan_refusal.ensures c.in_ok-mounted_refusal.ensures)
    (λ _. c.len-count.ensures) refl c.len-count.ensures a.lines.good
    c.plan_lines.ensures.pairs_are c.plan_lines.ensures.plan_is in
    record { answer = answer; plan = plan; rule = rule }
