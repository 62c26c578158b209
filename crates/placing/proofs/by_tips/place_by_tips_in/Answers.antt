use Rattle.std.proofs.Common.{◌≡◌, ◌<◌, ap, sym, take, length, get_or, ◌∙◌, rules, arith}
use lib.Seq.{length-take-le}
use Rattle.head.specs.OnHead.{on_head}
use Rattle.refusal.specs.Reasons.{reason_number, number_in}
use Rattle.refusal.proofs.Laws.{err_of, reason_not_0}
use Rattle.refusal.specs.Refusal.{none}
use Rattle.order_rules.specs.Tips.{changes}
use Rattle.order_rules.specs.TipCall.{tips_refusal}
use Rattle.order_rules.proofs.Ruling.{windows_passed}
use Rattle.order_rules.proofs.TipCall.{tips_passed}
use Rattle.placing.proofs.TipAnswers.{placed_given, placed_tips, placed_lost, placed_found}
use Rattle.placing.proofs.Windows.{order_some, order_none}
use Rattle.flat_order.proofs.Ready.{found_by, lost_by}
use Rattle.placing.proofs.Readied.{tip_below, next_ready, flat-by-tips, found_front, found_tipped}
use Rattle.placing.proofs.by_tips.place_by_tips_in.Goals as goal

pub returns-in_err-flat_parts : goal.returns-in_err-flat_parts
returns-in_err-flat_parts g c =
    λ parts p rules r.
    let a = c.args in
    rw (err_of c.from_residual.result _ c.from_residual.ensures)
    (placed_given parts rules a.plan.now (on_head a.mounted) a.order.now (c.in_err-flat_parts.ensures.refusal parts p rules r) (reason_not_0 _))

pub returns-in_err-refuse_tips : goal.returns-in_err-refuse_tips
returns-in_err-refuse_tips g c =
    λ parts p rules r.
    let a = c.args in
    rw (err_of c.from_residual-in_err-refuse_tips.result _ c.from_residual-in_err-refuse_tips.ensures)
    (placed_tips parts rules a.plan.now (on_head a.mounted) a.order.now (c.in_ok-flat_parts.ensures.refusal parts p rules r)
    (rw p.size c.in_err-refuse_tips.ensures) (reason_not_0 _))

pub slice_bounds-parts_on_tips-end : goal.slice_bounds-parts_on_tips-end
slice_bounds-parts_on_tips-end g c =
    let a = c.args in
    let p = tips_passed a.n a.plan.now (on_head a.mounted) (sym (ap (λ q. q.number) c.in_ok-refuse_tips.ensures)) in
    sym (length-take-le a.n a.plan.now p.long)

pub parts_on_tips-on_tip-requires-clause-tips : goal.parts_on_tips-on_tip-requires-clause-tips
parts_on_tips-on_tip-requires-clause-tips g c =
    let a = c.args in
    (tips_passed a.n a.plan.now (on_head a.mounted) (sym (ap (λ q. q.number) c.in_ok-refuse_tips.ensures))).tips

pub ready_at_start-start-requires-clause-head : goal.ready_at_start-start-requires-clause-head
ready_at_start-start-requires-clause-head g c =
    let a = c.args in
    (tips_passed a.n a.plan.now (on_head a.mounted) (sym (ap (λ q. q.number) c.in_ok-refuse_tips.ensures))).head

pub best_order-requires : goal.best_order-requires
best_order-requires g c =
    let a = c.args in
    let f = c.in_ok-flat_parts.ensures in
    let p = tips_passed a.n a.plan.now (on_head a.mounted) (sym (ap (λ q. q.number) c.in_ok-refuse_tips.ensures)) in (
      omega (arith, c.requires.room.small),
      (
        rw f.size c.requires.room,
        (
          f.sized,
          (
            f.firsts,
            (
              f.lasts,
              λ x l.
                  let inside : x < length a.plan.now = omega (arith, p.long, f.size) in
                  let tip : get_or a.plan.now x 0 < length c.parts_on_tips-on_tip.result =
                  omega (arith, c.parts_on_tips-on_tip.ensures.size, tip_below a.n a.plan.now p.long p.tips x (omega (arith, f.size))) in
                  search (inside, tip),
            ),
          ),
        ),
      ),
    )

pub returns-in_err-found : goal.returns-in_err-found
returns-in_err-found g c =
    let lost = lost_by _ _ (next_ready c.args.plan.now c.parts_on_tips-on_tip.result) (record { each = λ x s l e. search rules }) _ _
    c.best_order.result c.best_order.ensures.none in
    λ parts p rules r.
    let a = c.args in
    let flat = c.in_ok-flat_parts.ensures in
    let on = c.parts_on_tips-on_tip in
    let passed = flat.refusal parts p rules r in
    let good : none ≡ tips_refusal (length parts) a.plan.now (on_head a.mounted) = rw p.size c.in_ok-refuse_tips.ensures in
    let windows = windows_passed parts rules (length a.order.now) (sym (ap (λ q. q.number) passed)) in
    let t = tips_passed (length parts) a.plan.now (on_head a.mounted) (sym (ap (λ q. q.number) good)) in
    let same = flat-by-tips parts windows rules _ _ _ (flat.flat parts p rules r) a.plan.now (on_head a.mounted) t.long
    c.ready_at_start-start.result on.result t.tips on.ensures.size (rw p.size on.ensures.tips)
    (rw p.size (c.ready_at_start-start.ensures (take a.n a.plan.now) on.ensures.tips)) in
    let no = rw c.in_err-found.ensures.ok_part at (order_none (flat.size ∙ sym p.size) same c.best_order.result lost) in
    let number : reason_number c.in_err-found.field-0.0 ≡ 29 = ap number_in (rw c.in_err-found.ensures.ok_part at c.in_err-found.ensures.value) in
    rw (err_of c.from_residual-in_err-found.result _ c.from_residual-in_err-found.ensures, number)
    (placed_lost parts rules a.plan.now (on_head a.mounted) a.order.now passed good no)

pub count_changes-requires : goal.count_changes-requires
count_changes-requires g c =
    let a = c.args in
    let flat = c.in_ok-flat_parts.ensures in
    let f = c.flat_parts.new in
    let p = tips_passed a.n a.plan.now (on_head a.mounted) (sym (ap (λ q. q.number) c.in_ok-refuse_tips.ensures)) in
    let found = found_by _ _ (next_ready a.plan.now c.parts_on_tips-on_tip.result) (record { each = λ x s l e. search rules }) _ _ c.best_order.result
    c.best_order.ensures.some in
    found_tipped a.n f.firsts f.lasts f.rows c.ready_at_start-start.result _ flat.size flat.lasts
    c.in_ok-found.found (rw c.in_ok-found.ensures.ok_part at found) a.plan.now a.order.now c.copy_from_slice.new.self p.long
    c.copy_from_slice.ensures.after

pub returns : goal.returns
returns g c =
    let found = found_by _ _ (next_ready c.args.plan.now c.parts_on_tips-on_tip.result) (record { each = λ x s l e. search rules }) _ _
    c.best_order.result c.best_order.ensures.some in
    λ parts p rules r.
    let a = c.args in
    let flat = c.in_ok-flat_parts.ensures in
    let f = c.flat_parts.new in
    let on = c.parts_on_tips-on_tip in
    let passed = flat.refusal parts p rules r in
    let good : none ≡ tips_refusal (length parts) a.plan.now (on_head a.mounted) = rw p.size c.in_ok-refuse_tips.ensures in
    let windows = windows_passed parts rules (length a.order.now) (sym (ap (λ q. q.number) passed)) in
    let t = tips_passed (length parts) a.plan.now (on_head a.mounted) (sym (ap (λ q. q.number) good)) in
    let same = flat-by-tips parts windows rules _ _ _ (flat.flat parts p rules r) a.plan.now (on_head a.mounted) t.long
    c.ready_at_start-start.result on.result t.tips on.ensures.size (rw p.size on.ensures.tips)
    (rw p.size (c.ready_at_start-start.ensures (take a.n a.plan.now) on.ensures.tips)) in
    let some = rw c.in_ok-found.ensures.ok_part at (order_some (flat.size ∙ sym p.size) same c.best_order.result found) in
    let front = found_front a.n f.firsts f.lasts f.rows c.ready_at_start-start.result _ flat.size flat.lasts c.in_ok-found.found
    (rw c.in_ok-found.ensures.ok_part at found) a.order.now c.copy_from_slice.new.self c.copy_from_slice.ensures.after in
    let counted : c.count_changes.result ≡ changes a.plan.now (on_head a.mounted) (take a.n c.in_ok-found.found) =
    c.count_changes.ensures ∙ ap (changes a.plan.now (on_head a.mounted)) front in
    rw (counted, c.copy_from_slice.ensures.after, sym p.size)
    (placed_found parts rules a.plan.now (on_head a.mounted) a.order.now passed good (take (length parts) c.in_ok-found.found) some)
