use Rattle.std.proofs.Common.{arith}
use Rattle.model.proofs.Loops.{mapped-more}
use Rattle.greedy.specs.Rounds.{cleared}
use Rattle.greedy.proofs.eight.clear_lines.Goals as goal

pub loop-set-preserved : goal.loop-set-preserved
loop-set-preserved c =
    let at = c.loop-set in
    rw (c.set_after.ensures, at.invariant, mapped-more (cleared c.args.tip) c.args.left.now at.set-index (omega arith))
