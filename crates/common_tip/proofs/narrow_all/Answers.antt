use Rattle.std.proofs.Common.{arith}
use Rattle.model.proofs.Loops.{mapped-more}
use Rattle.common_tip.specs.Common.{narrow_by}
use Rattle.common_tip.proofs.narrow_all.Goals as goal

pub loop-set-preserved : goal.loop-set-preserved
loop-set-preserved c =
    rw (c.narrow.ensures, c.loop-set.invariant, mapped-more (narrow_by c.args.v) c.args.lines.now c.loop-set.set-index (omega arith))
