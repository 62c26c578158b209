use Rattle.std.proofs.Common.{◌<◌, length, ◌∙◌, arith}
use lib.ListN.{length-set, length-replicate}
use Rattle.flat_order.specs.declared.sets.PartSet.{PartSet}
use Rattle.flat_order.specs.Sets.{no_parts}
use Rattle.order_rules.specs.Tips.{tip_at}
use Rattle.flat_order.proofs.Below.{places_none, places_more}
use Rattle.placing.proofs.Readied.{tip_in}
use Rattle.placing.proofs.by_tips.parts_on_tips.Goals as goal

pub loop-i-init : goal.loop-i-init
loop-i-init c = record { size = length-replicate {A = PartSet} 64 no_parts; on = places_none (tip_at c.args.plan.now) 64 }

pub bounds-sets-tip : goal.bounds-sets-tip
bounds-sets-tip c = omega (arith, c.from-tip.ensures, tip_in c.args.plan.now c.requires.tips c.loop-i.i c.loop-i-test.true)

pub loop-i-preserved : goal.loop-i-preserved
loop-i-preserved c =
    let l = c.loop-i in
    let i = l.invariant in
    let k = tip_in c.args.plan.now c.requires.tips l.i c.loop-i-test.true in
    let at : c.from-tip.result < length l.sets = omega (arith, c.from-tip.ensures, k, i.size) in
    record {
      size = length-set l.sets _ _ ∙ i.size;
      on = rw (c.bitor.ensures, c.single.ensures)
          (places_more (tip_at c.args.plan.now) l.i l.sets c.from-tip.result c.from-tip.ensures at i.on);
    }

pub bounds-sets-tip-in-loop-i : goal.bounds-sets-tip-in-loop-i
bounds-sets-tip-in-loop-i c = omega (arith, c.from-tip.ensures, tip_in c.args.plan.now c.requires.tips c.loop-i.i c.loop-i-test.true)
