use Rattle.std.proofs.Common.{◌+◌, ◌^◌, ◌<◌, arith}
use Rattle.subset_table.proofs.Adding.{half_first, half_few, half_more}
use Rattle.subset_table.proofs.counting.add_half.Goals as goal

pub loop-u-init : goal.loop-u-init
loop-u-init c = half_first c.requires

pub overflow_add-counts-in-loop-u : goal.overflow_add-counts-in-loop-u
overflow_add-counts-in-loop-u c =
    let l = c.loop-u in
    let inside : l.u < c.args.start + 2 ^ c.args.t = omega (arith, c.loop-u-test.true, c.set_count-half.ensures) in
    rw c.set_count-half.ensures (record { fits = omega (arith, half_few c.requires l.invariant l.auto.u inside) })

pub loop-u-preserved : goal.loop-u-preserved
loop-u-preserved c =
    let l = c.loop-u in
    let inside : l.u < c.args.start + 2 ^ c.args.t = omega (arith, c.loop-u-test.true, c.set_count-half.ensures) in
    rw c.set_count-half.ensures (half_more c.requires l.invariant l.auto.u inside)
