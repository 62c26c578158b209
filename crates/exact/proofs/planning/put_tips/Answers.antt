use Rattle.std.proofs.Common.{arith}
use Rattle.model.specs.Greedy.{first}
use Rattle.model.proofs.Loops.{map_more}
use Rattle.exact.proofs.planning.put_tips.Goals as goal

pub loop-i-preserved : goal.loop-i-preserved
loop-i-preserved c =
    let l = c.loop-i in
    rw (l.invariant, c.first_tip.ensures)
    (map_more (first c.args.tips.now) c.args.lines.now c.args.plan.now l.i c.loop-i-test.true (omega (arith, c.loop-i-test.true, c.requires.bytes)))
