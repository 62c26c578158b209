use Rattle.std.proofs.Common.{arith}
use Rattle.junior.proofs.Passed.{missed-more, missed-all}
use Rattle.junior.proofs.misses.Goals as goal

pub loop-set-preserved : goal.loop-set-preserved
loop-set-preserved c =
    let at = c.loop-set in
    let a = c.args in
    rw c.has_one.ensures (missed-more a.block.now a.u a.v at.set-index (omega arith) at.missed at.invariant)

pub returns : goal.returns
returns c =
    let at = c.loop-set in
    missed-all c.args.block.now c.args.u c.args.v at.set-index (omega arith) at.missed at.invariant
