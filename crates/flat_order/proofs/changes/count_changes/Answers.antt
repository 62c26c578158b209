use Rattle.std.proofs.Common.{◌≡◌, ◌≤◌, Bool, true, false, cond, refl, get_or, ap, ◌∙◌, arith}
use mir.Val.{bool_byte}
use Rattle.head.specs.OnHead.{on_head}
use Rattle.order_rules.specs.Tips.{has_other, is_change}
use Rattle.flat_order.proofs.Counted.{changes_more, changes_over}
use Rattle.flat_order.proofs.changes.count_changes.Goals as goal

one-of : (b : Bool) → bool_byte b ≡ cond b 1 0
one-of true = refl
one-of false = refl

one-most : (b : Bool) → bool_byte b ≤ 1
one-most true = omega arith
one-most false = omega arith

pub loop-part-preserved : goal.loop-part-preserved
loop-part-preserved c =
    let l = c.loop-part in
    let plan = c.args.plan.now in
    let order = c.args.order.now in
    let x = get_or order l.part-index 0 in
    let tip : c.from-tip.result ≡ get_or plan x 0 = c.from-tip.ensures ∙ ap (λ y. get_or plan y 0) c.from.ensures in
    let one : c.from-changes.result ≡ cond (is_change plan (on_head l.head) x) 1 0 =
    c.from-changes.ensures ∙ one-of _ ∙ ap (λ b. cond b 1 0) (c.has_other.ensures ∙ ap (has_other (on_head l.head)) tip) in
    let more = changes_more plan order (on_head l.head) l.part-index (omega arith) in
    record {
      few = omega (arith, l.invariant.few, c.from-changes.ensures, one-most c.has_other.result);
      counted = rw tip (omega (arith, one, more, l.invariant.counted));
    }

pub returns : goal.returns
returns c =
    let l = c.loop-part in
    omega (arith, l.invariant.counted, changes_over c.args.plan.now c.args.order.now (on_head l.head) l.part-index (omega arith) (omega arith))
