use Rattle.order_rules.specs.Number.{number}
use Rattle.flat_order.specs.Sets.{has_part, removed}
use Rattle.flat_order.specs.Flat.{Held}
use Rattle.flat_order.proofs.Free.{Trying, Onward}
use Rattle.flat_order.proofs.picking.lowest_free.Given as goal

abbrev pub invariant-loop-x : goal.invariant-loop-x
invariant-loop-x l = record {
  trying : Trying l.fn.among l.left l.rows l.rest;
  onward : Onward (removed l.fn.among l.initial.waiting) l.rest;
  held : Held l.left l.waiting l.rows l.noted;
}

abbrev pub decreases-loop-x : goal.decreases-loop-x
decreases-loop-x l = number (has_part l.rest) 128
