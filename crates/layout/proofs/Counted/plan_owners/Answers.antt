use Rattle.std.proofs.Common.{arith}
use Rattle.model.proofs.Lists.{all-at}
use Rattle.model.proofs.Loops.{map_more}
use Rattle.layout.specs.Owners.{owner_of}
use Rattle.layout.proofs.Counted.plan_owners.Goals as goal

pub owner_of-requires-clause-domain : goal.owner_of-requires-clause-domain
owner_of-requires-clause-domain c = all-at 0 c.requires.domains c.loop-i.i (omega arith)

pub loop-i-preserved : goal.loop-i-preserved
loop-i-preserved c =
    let a = c.args in
    rw (c.owner_of.ensures, c.loop-i.invariant)
    (map_more (owner_of a.self.now.m a.owner.now) a.lines.now a.plan.now c.loop-i.i (omega arith) (omega (arith, c.requires.size)))
