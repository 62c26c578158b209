use Rattle.std.proofs.Common.{refl, length}
use Rattle.windows.proofs.Arrays.{starts_agree, none_agree}
use Rattle.windows.proofs.orders.order_from.Goals as goal

pub returns-clause-none : goal.returns-clause-none
returns-clause-none g c =
    let a = c.args in
    let r = c.requires in
    let n = length a.lasts.now in
    none_agree
    (starts_agree a.firsts.now a.lasts.now a.rows.now r.ready a.i a.position r.part c.copy_from_slice.new.self c.copy_from_slice.ensures.after)
    r.ready.closes r.ready.closes n n refl c.some_order.result
    (rw (c.copy_from_slice-2.ensures.after, c.max.ensures) at c.some_order.ensures.none)
