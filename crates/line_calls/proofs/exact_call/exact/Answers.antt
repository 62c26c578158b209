use mathlib.Core.Path.{refl, sym, ap, ◌∙◌}
use lib.Seq.{length-take-le}
use Rattle.std.proofs.Common.{length}
use Rattle.refusal.specs.Refusal.{none}
use Rattle.refusal.proofs.Laws.{err_of, reason_not_0}
use Rattle.head.specs.OnHead.{on_head}
use Rattle.call_refusals.specs.Calls.{mounted_refusal}
use Rattle.line_calls.proofs.ExactPlan.{exact_none, exact_later, exact_as, exact_refused, exact_accepted}
use Rattle.line_calls.proofs.exact_call.exact.Goals as goal

-- a mounted tip outside the rack refuses the call before the lines are looked at
pub returns-in_err-mounted_refusal : goal.returns-in_err-mounted_refusal
returns-in_err-mounted_refusal c =
    let a = c.args in
    let e = c.in_err-mounted_refusal.field-0.0 in
    let same = err_of _ e c.from_residual.ensures in
    let n = reason_not_0 e.reason in
    let asked = c.in_err-mounted_refusal.ensures in
    let (answer, (plan, table)) =
    exact_refused (mounted_refusal none a.lines.rack (on_head a.mounted)) a.lines.rack (on_head a.mounted) a.price a.lines.quantities.now
    a.lines.sets.now
    a.plan.now a.table.now (exact_later asked n a.lines.rack a.lines.sets.now (length a.plan.now) (length a.table.now)) n in
    rw same (record { answer = answer; plan = plan; table = table })

pub returns-in_err-exact_refusal : goal.returns-in_err-exact_refusal
returns-in_err-exact_refusal c =
    let a = c.args in
    let e = c.in_err-exact_refusal.field-0.0 in
    let same = err_of _ e c.from_residual-in_err-exact_refusal.ensures in
    let (answer, (plan, table)) =
    exact_refused (mounted_refusal none a.lines.rack (on_head a.mounted)) a.lines.rack (on_head a.mounted) a.price a.lines.quantities.now
    a.lines.sets.now a.plan.now a.table.now
    (exact_as a.lines.rack a.lines.sets.now (length a.plan.now) (length a.table.now) c.in_err-exact_refusal.ensures
    c.in_ok-mounted_refusal.ensures) (reason_not_0 e.reason) in
    rw same (record { answer = answer; plan = plan; table = table })

pub table_places-places-requires : goal.table_places-places-requires
table_places-places-requires c =
    rw c.count_named.ensures (exact_none none _ _ _ _ (ap (λ r. r.number) (sym c.in_ok-exact_refusal.ensures))).few_tips

pub slice_bounds-plan_board-end : goal.slice_bounds-plan_board-end
slice_bounds-plan_board-end c =
    rw c.len-count.ensures (exact_none none _ _ _ _ (ap (λ r. r.number) (sym c.in_ok-exact_refusal.ensures))).bytes

pub slice_bounds-plan_board-end-2 : goal.slice_bounds-plan_board-end-2
slice_bounds-plan_board-end-2 c =
    let room = (exact_none none _ _ _ _ (ap (λ r. r.number) (sym c.in_ok-exact_refusal.ensures))).bytes in
    rw c.len-count.ensures (sym (length-take-le _ _ room))

pub slice_bounds-plan_board-end-3 : goal.slice_bounds-plan_board-end-3
slice_bounds-plan_board-end-3 c =
    rw (c.table_places-places.ensures, c.count_named.ensures)
    (exact_none none _ _ _ _ (ap (λ r. r.number) (sym c.in_ok-exact_refusal.ensures))).cells

pub slice_bounds-plan_board-end-4 : goal.slice_bounds-plan_board-end-4
slice_bounds-plan_board-end-4 c =
    let cells = (exact_none none _ _ _ _ (ap (λ r. r.number) (sym c.in_ok-exact_refusal.ensures))).cells in
    rw (c.table_places-places.ensures, c.count_named.ensures) (sym (length-take-le _ _ cells))

pub plan_board-requires : goal.plan_board-requires
plan_board-requires c =
    let free = exact_none none _ _ _ _ (ap (λ r. r.number) (sym c.in_ok-exact_refusal.ensures)) in
    let same = c.copy_sets.ensures in
    let room = rw (← c.len-count.ensures) at free.bytes in
    record {
      good = rw same c.args.lines.good;
      few_tips = rw same free.few_tips;
      bytes = length-take-le _ _ room ∙ c.len-count.ensures ∙ sym (ap length same);
      places = rw (c.table_places-places.ensures, c.count_named.ensures, same) (length-take-le _ _ free.cells);
    }

pub returns : goal.returns
returns c =
    let a = c.args in
    let laid = c.plan_board.ensures in
    let same = c.copy_sets.ensures in
    let (answer, (plan, table)) =
    exact_accepted (mounted_refusal none a.lines.rack (on_head a.mounted)) a.lines.rack (on_head a.mounted) a.price a.lines.quantities.now
    a.lines.sets.now a.plan.now a.table.now
    (exact_as a.lines.rack a.lines.sets.now (length a.plan.now) (length a.table.now) c.in_ok-exact_refusal.ensures
    c.in_ok-mounted_refusal.ensures) refl
    (laid.pairs ∙ rw (laid.plan, same) refl) (laid.tips ∙ rw (laid.plan, same) refl) (rw same at laid.plan) (rw same at laid.table) in
    rw (c.len-count.ensures, c.table_places-places.ensures, c.count_named.ensures) (record { answer = answer; plan = plan; table = table })
