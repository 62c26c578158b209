use Rattle.std.proofs.Common.{rules}
use Rattle.flat_order.specs.Sets.{no_parts}
use Rattle.flat_order.specs.Flat.{flat_task}
use Rattle.flat_order.proofs.Ready.{never_ready, found_by, lost_by}
use Rattle.flat_order.proofs.least_order.Goals as goal

pub returns-clause-some : goal.returns-clause-some
returns-clause-some g c =
    rw (← never_ready (flat_task c.args.firsts.now c.args.lasts.now c.args.rows.now))
    (found_by _ _ (λ _. no_parts) (record { each = λ x s l e. search rules }) _ _ c.best_order.result c.best_order.ensures.some)

pub returns-clause-none : goal.returns-clause-none
returns-clause-none g c =
    rw (← never_ready (flat_task c.args.firsts.now c.args.lasts.now c.args.rows.now))
    (lost_by _ _ (λ _. no_parts) (record { each = λ x s l e. search rules }) _ _ c.best_order.result c.best_order.ensures.none)
