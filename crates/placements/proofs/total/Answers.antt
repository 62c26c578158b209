use Rattle.std.proofs.Common.{◌+◌, arith, refl}
use Rattle.placements.specs.Repeated.{total}
use Rattle.placements.proofs.Loops.{total-more}
use Rattle.placements.proofs.Totals.{total-take_le}
use Rattle.placements.proofs.total.Goals as goal

pub loop-quantity-init : goal.loop-quantity-init
unfolding total
loop-quantity-init c = refl

pub overflow_add-sum : goal.overflow_add-sum
overflow_add-sum c =
    let qs = c.args.quantities.now in
    let i = c.loop-quantity.quantity-index in
    record { fits = omega (arith, total-more qs i c.loop-quantity-test.true, total-take_le qs (i + 1), c.requires) }

pub loop-quantity-preserved : goal.loop-quantity-preserved
loop-quantity-preserved c = omega (arith, total-more c.args.quantities.now c.loop-quantity.quantity-index c.loop-quantity-test.true)
