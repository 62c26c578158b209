use Rattle.std.proofs.Common.{rules, ◌≡◌, Err}
use Rattle.tipshare_c.proofs.Ordered.{ordered_refused, ordered_accepted}
use Rattle.tipshare_c.proofs.order_call.order_outcome.Goals as goal

pub returns-in_err-order_numbers-clause-outcome : goal.returns-in_err-order_numbers-clause-outcome
returns-in_err-order_numbers-clause-outcome c =
    let e = c.in_err-order_numbers.field-0.0 in
    let same : c.from_residual.result ≡ Err e = search rules in
    rw same (ordered_refused _ _ _ e c.in_err-order_numbers.ensures.refusal)

pub returns-clause-outcome : goal.returns-clause-outcome
returns-clause-outcome c = rw c.one.ensures (ordered_accepted _ _ _ c.in_ok-order_numbers.ensures.refusal)
