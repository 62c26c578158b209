use Rattle.std.proofs.Common.{arith}
use Rattle.model.proofs.Lists.{all-at}
use Rattle.model.proofs.Loops.{mapped_next, mapped-more}
use Rattle.ranks.specs.Listed.{named_by}
use Rattle.ranks.proofs.name_sets.Goals as goal

pub name_set-requires : goal.name_set-requires
name_set-requires c =
    let at = c.loop-set in
    rw (at.invariant, mapped_next (named_by c.args.list.now) c.args.sets.now at.set-index) (all-at 0 c.requires at.set-index (omega arith))

pub loop-set-preserved : goal.loop-set-preserved
loop-set-preserved c =
    let at = c.loop-set in
    rw (c.name_set.ensures, at.invariant, mapped-more (named_by c.args.list.now) c.args.sets.now at.set-index (omega arith))
