use Rattle.std.proofs.Common.{arith, get_or}
use lib.Bits.{or_add_and, and_le_l, and_le_r}
use borrow.Author.Count.{below_more}
use Rattle.model.proofs.Lists.{all_get_d}
use Rattle.counts.proofs.picking.bounds_of.Goals as goal

pub loop-quantity-preserved : goal.loop-quantity-preserved
loop-quantity-preserved c =
    let l = c.loop-quantity in
    let q = get_or c.args.quantities.now l.quantity-index 0 in
    let and = and_le_l l.low q in
    let or = or_add_and l.high q in
    let some = and_le_r l.high q in
    let rest = and_le_l l.high q in (
      below_more _ _ (λ n b. omega (arith, and, l.invariant.0 n b)) (and_le_r l.low q),
      below_more _ _ (λ n b. omega (arith, or, some, l.invariant.1 n b)) (omega (arith, or, rest)),
    )

pub returns : goal.returns
returns c =
    let l = c.loop-quantity in
    let qs = c.args.quantities.now in
    record {
      low = all_get_d 0 qs (λ k b. l.invariant.0 k (omega arith));
      high = all_get_d 0 qs (λ k b. l.invariant.1 k (omega arith));
    }
