use mathlib.Core.Path.{◌≡◌, refl, sym, ap}
use native.Mathlib.Omega.{arith}
use lib.ListN.{length-drop}
use Rattle.std.proofs.Common.{rules, length, take, drop, ◌-◌, ◌≤◌, Err}
use Rattle.refusal.specs.Refusal.{none}
use Rattle.refusal.proofs.Laws.{reason_not_0}
use Rattle.model.proofs.Loops.{part-rest}
use Rattle.call_refusals.proofs.Calls.{plan_none}
use Rattle.line_calls.proofs.Plans.{bare_none}
use Rattle.panel.proofs.BothPlans.{quick_number, alone_refused, alone_accepted}
use Rattle.panel.proofs.alone_lines.alone.Goals as goal

pub returns-in_err-plan_refusal : goal.returns-in_err-plan_refusal
returns-in_err-plan_refusal c =
    let x = c.args.first in
    let y = c.args.second in
    let e = c.in_err-plan_refusal.field-0.0 in
    let same : c.from_residual.result ≡ Err e = search rules in
    let (answer, (plan, rule)) =
    alone_refused none x.rack x.quantities.now x.sets.now y.rack y.quantities.now y.sets.now c.args.plan.now
    (rw (c.len-count.ensures, c.len.ensures) at c.in_err-plan_refusal.ensures) (reason_not_0 e.reason) in
    rw same (record { answer = answer; plan = plan; rule = rule })

-- the plan has a byte a line of both, so that quick sharing is not refused
pub returns-in_err-first_pairs : goal.returns-in_err-first_pairs
returns-in_err-first_pairs c =
    let x = c.args.first in
    let few = (plan_none none _ _ (ap (λ r. r.number) (sym c.in_ok-plan_refusal.ensures))).1 in
    absurd (reason_not_0 c.in_err-first_pairs.field-0.0.reason
    (quick_number none refl x.rack x.quantities.now x.sets.now (length c.args.plan.now) (omega (arith, few, c.len-count.ensures))
    (rw (bare_none x.rack) at c.in_err-first_pairs.ensures.answer)))

pub slice_bounds-quick-count : goal.slice_bounds-quick-count
slice_bounds-quick-count c =
    omega (arith, (plan_none none _ _ (ap (λ r. r.number) (sym c.in_ok-plan_refusal.ensures))).1, c.quick.auto.plan)

pub slice_bounds-quick-start : goal.slice_bounds-quick-start
slice_bounds-quick-start c =
    omega (arith, (plan_none none _ _ (ap (λ r. r.number) (sym c.in_ok-plan_refusal.ensures))).1, c.quick.auto.plan)

pub returns-in_err-second_pairs : goal.returns-in_err-second_pairs
returns-in_err-second_pairs c =
    let y = c.args.second in
    let few = (plan_none none _ _ (ap (λ r. r.number) (sym c.in_ok-plan_refusal.ensures))).1 in
    let first = c.quick.new.plan in
    let n = c.len-count.result in
    let room : length y.sets.now ≤ length (take (length first - n) (drop n first)) =
    rw (part-rest first n, length-drop) (omega (arith, few, c.len.ensures, c.quick.auto.plan)) in
    absurd (reason_not_0 c.in_err-second_pairs.field-0.0.reason
    (quick_number none refl y.rack y.quantities.now y.sets.now _ room (rw (bare_none y.rack) at c.in_err-second_pairs.ensures.answer)))

pub returns : goal.returns
returns c =
    let x = c.args.first in
    let y = c.args.second in
    let first = c.in_ok-first_pairs.ensures in
    let second = c.in_ok-second_pairs.ensures in
    let (answer, (plan, rule)) =
    alone_accepted none x.rack x.quantities.now x.sets.now y.rack y.quantities.now y.sets.now c.args.plan.now
    (rw (c.len-count.ensures, c.len.ensures) at c.in_ok-plan_refusal.ensures) refl c.len-count.ensures
    (rw (bare_none x.rack) at first.answer) (rw (bare_none x.rack) at first.plan) first.rule
    (rw (bare_none y.rack) at second.answer) (rw (bare_none y.rack) at second.plan) second.rule in
    record { answer = answer; plan = plan; rule = rule }
