use Rattle.std.proofs.Common.{length, rules}
use Rattle.flat_order.specs.Flat.{flat_task}
use Rattle.windows.proofs.Arrays.{some_found, none_found}
use Rattle.windows.proofs.orders.some_order.Goals as goal

pub returns-clause-some : goal.returns-clause-some
returns-clause-some g c =
    let a = c.args in
    some_found _ (length a.ends.now) (λ _. a.wanted) (record { each = λ x s l e. search rules }) a.wanted
    (flat_task a.firsts.now a.ends.now a.rows.now) c.requires.ready.closes c.best_order.result c.best_order.ensures.some

pub returns-clause-none : goal.returns-clause-none
returns-clause-none g c =
    let a = c.args in
    none_found _ (length a.ends.now) (λ _. a.wanted) (record { each = λ x s l e. search rules }) a.wanted
    (flat_task a.firsts.now a.ends.now a.rows.now) c.requires.ready.closes c.best_order.result c.best_order.ensures.none
