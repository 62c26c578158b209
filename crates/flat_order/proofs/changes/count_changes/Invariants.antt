use Rattle.std.proofs.Common.{◌≡◌, ◌+◌, ◌≤◌, drop}
use Rattle.head.specs.OnHead.{on_head}
use Rattle.order_rules.specs.Tips.{changes}
use Rattle.flat_order.proofs.changes.count_changes.Given as goal

abbrev pub invariant-loop-part : goal.invariant-loop-part
invariant-loop-part l = record {
  few : l.changes ≤ l.part-index;
  counted : l.changes + changes l.plan (on_head l.head) (drop l.part-index l.order) ≡ changes l.plan (on_head l.fn.mounted) l.order;
}
