use Rattle.std.proofs.Common.{◌≡◌, ◌∙◌, ap, sym, take, length}
use Rattle.refusal.proofs.Laws.{reason_not_0, told_err, told_reason}
use Rattle.refusal.specs.Reasons.{reason_number, number_in}
use Rattle.order_rules.proofs.Ruling.{windows_passed}
use Rattle.placing.proofs.Answers.{placed_given, placed_none, placed_order}
use Rattle.placing.proofs.Windows.{flat-order, order_some, order_none}
use Rattle.placing.proofs.placement.place_in.Goals as goal

pub returns-in_err-flat_parts : goal.returns-in_err-flat_parts
returns-in_err-flat_parts g c =
    λ parts p rules r.
    let e = told_err c.from_residual.result c.in_err-flat_parts.field-0.0 c.from_residual.ensures in
    rw e (placed_given parts rules c.args.order.now (c.in_err-flat_parts.ensures.refusal parts p rules r) (reason_not_0 _))

pub returns-in_err-found : goal.returns-in_err-found
returns-in_err-found g c =
    λ parts p rules r.
    let flat = c.in_ok-flat_parts.ensures in
    let passed = flat.refusal parts p rules r in
    let windows = windows_passed parts rules (length c.args.order.now) (sym (ap (λ q. q.number) passed)) in
    let found = order_none (flat.size ∙ sym p.size) (flat-order parts windows rules _ _ _ (flat.flat parts p rules r))
    c.least_order.result c.least_order.ensures.none in
    let no = rw c.in_err-found.ensures.ok_part at found in
    let e = told_reason c.from_residual-in_err-found.result c.in_err-found.field-0.0 c.from_residual-in_err-found.ensures in
    let number : reason_number c.in_err-found.field-0.0 ≡ 29 = ap number_in (rw c.in_err-found.ensures.ok_part at c.in_err-found.ensures.value) in
    rw (e, number) (placed_none parts rules c.args.order.now passed no)

pub returns : goal.returns
returns g c =
    λ parts p rules r.
    let flat = c.in_ok-flat_parts.ensures in
    let passed = flat.refusal parts p rules r in
    let windows = windows_passed parts rules (length c.args.order.now) (sym (ap (λ q. q.number) passed)) in
    let found = order_some (flat.size ∙ sym p.size) (flat-order parts windows rules _ _ _ (flat.flat parts p rules r))
    c.least_order.result c.least_order.ensures.some in
    let some = rw c.in_ok-found.ensures.ok_part at found in
    rw (c.copy_from_slice.ensures.after, sym p.size) (placed_order parts rules c.args.order.now passed (take (length parts) c.in_ok-found.found) some)
