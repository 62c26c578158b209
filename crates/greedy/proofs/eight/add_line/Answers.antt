use Rattle.std.proofs.Common.{arith}
use native.Mathlib.Nat.{le_refl}
use Rattle.few_tips.proofs.Sums.{placed_le}
use Rattle.greedy.proofs.FewTips.{adding_start, adding_more}
use Rattle.greedy.proofs.eight.add_line.Goals as goal

pub loop-tip-init : goal.loop-tip-init
loop-tip-init c = adding_start c.args.quantity c.args.set c.args.counts.now

pub overflow_add-count : goal.overflow_add-count
overflow_add-count c =
    let at = c.loop-tip in
    let room = c.requires at.tip (omega arith) in
    record { fits = omega (arith, room, at.invariant.rest at.tip (le_refl at.tip), c.placed.ensures, placed_le c.args.quantity c.args.set at.tip) }

pub loop-tip-preserved : goal.loop-tip-preserved
loop-tip-preserved c =
    let at = c.loop-tip in
    adding_more at.invariant (omega arith) (rw c.placed.ensures)

pub returns : goal.returns
returns c = λ t l. c.loop-tip.invariant.done t (omega arith)
