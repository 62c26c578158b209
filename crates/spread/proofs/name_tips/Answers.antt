use Rattle.std.proofs.Common.{get_or, arith}
use Rattle.model.proofs.Lists.{all-at}
use Rattle.model.proofs.Loops.{mapped_next, mapped-more}
use Rattle.spread.proofs.name_tips.Goals as goal

pub bounds-list-from : goal.bounds-list-from
bounds-list-from c =
    let at = c.loop-tip in
    rw (c.from.ensures, at.invariant, mapped_next (λ t. get_or c.args.list.now t 0) c.args.plan.now at.tip-index)
    (all-at 0 c.requires at.tip-index (omega arith))

pub loop-tip-preserved : goal.loop-tip-preserved
loop-tip-preserved c =
    let at = c.loop-tip in
    rw (c.from.ensures, at.invariant, mapped-more (λ t. get_or c.args.list.now t 0) c.args.plan.now at.tip-index (omega arith))
