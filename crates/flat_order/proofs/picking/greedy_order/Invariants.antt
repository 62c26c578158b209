use Rattle.std.proofs.Common.{◌≡◌, false, ℕ, ◌≤◌, ◌<◌, ◌^◌, ◌&&◌, ltb, length, get_or}
use Rattle.flat_order.specs.declared.sets.PartSet.{PartSet}
use Rattle.flat_order.specs.Sets.{has_part}
use Rattle.flat_order.specs.Flat.{Levels, IsEnd, Held, Leaves}
use Rattle.flat_order.proofs.Picks.{Kept, Placing}
use Rattle.flat_order.proofs.picking.greedy_order.Given as goal

abbrev pub invariant-loop-p : goal.invariant-loop-p
invariant-loop-p g l = record {
  kept : Kept l.lasts l.p l.order l.left;
  placing : (next : ℕ → PartSet) → Leaves (λ x s. g.F.Fn.post l.after (x, tt) s) (length l.lasts) next
      → Placing l.firsts l.lasts l.rows l.fn.start next l.p l.order l.left l.ready;
  levels : Levels l.left l.lasts l.p l.levels;
  low : l.left.low < 2 ^ 64;
  high : l.left.high < 2 ^ 64;
  stays : l.reached ≡ false → l.p ≤ l.end → IsEnd (length l.lasts) l.p l.levels l.end;
  begun : (x : ℕ) → has_part l.begun x ≡ (ltb x (length l.lasts) && ltb (get_or l.firsts x 0) l.p);
  held : Held l.left l.waiting l.rows l.noted;
}
