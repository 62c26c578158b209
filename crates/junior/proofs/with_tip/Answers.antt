use Rattle.std.proofs.Common.{arith, refl, sym, ◌+◌, take}
use Rattle.model.specs.Plan.{has}
use Rattle.placements.specs.Repeated.{weighted}
use Rattle.placements.proofs.Loops.{weighted-more}
use Rattle.placements.proofs.Totals.{total-take_le}
use Rattle.few_tips.proofs.Sums.{weighted_le}
use Rattle.junior.proofs.with_tip.Goals as goal

pub loop-i-init : goal.loop-i-init
unfolding weighted
loop-i-init c = refl

pub overflow_add-sum : goal.overflow_add-sum
overflow_add-sum c =
    let at = c.loop-i in
    let qs = c.args.quantities.now in
    let lines = c.args.lines.now in
    let more = weighted-more (λ s. has s c.args.tip) qs lines c.requires.same at.i (omega arith) in
    let part = weighted_le (λ s. has s c.args.tip) (take (at.i + 1) qs) (take (at.i + 1) lines) in
    record { fits = omega (arith, at.invariant, c.placed-sum.ensures, more, part, total-take_le qs (at.i + 1), c.requires.few) }

pub loop-i-preserved : goal.loop-i-preserved
loop-i-preserved c =
    let at = c.loop-i in
    let more = weighted-more (λ s. has s c.args.tip) c.args.quantities.now c.args.lines.now c.requires.same at.i (omega arith) in
    rw (c.placed-sum.ensures, at.invariant) (sym more)
