use Rattle.counts.specs.Counts.{plane_count}
use Rattle.std.proofs.Common.{arith, ◌≡◌}
use Rattle.counts.proofs.AtLeast.{compare_start, compare_more, compare_end}
use Rattle.counts.proofs.tips_with.Goals as goal

pub loop-plane-init : goal.loop-plane-init
loop-plane-init c = rw c.all_tips-all.ensures (compare_start c.args.planes.now c.args.rack c.args.least (omega arith) c.requires.least)

pub loop-plane-preserved : goal.loop-plane-preserved
loop-plane-preserved c =
    rw c.compare-enough.ensures
    (compare_more c.args.planes.now c.args.rack c.args.least (omega arith) (omega arith) c.loop-plane.invariant)

pub returns : goal.returns
returns c =
    let e : c.loop-plane.plane-index ≡ plane_count = omega arith in
    rw c.all_tips-all.ensures (compare_end c.args.planes.now c.args.rack c.args.least (omega arith) (rw e at c.loop-plane.invariant))
