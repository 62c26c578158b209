use Rattle.std.proofs.Common.{ℕ, ◌+◌, ◌^◌, ◌<◌, ap, arith}
use Rattle.flat_order.proofs.Lowest.{low_below, lowest-low, lowest-none, lowest-high}
use Rattle.flat_order.proofs.sets.PartSet.lowest.Goals as goal

pub returns-then-self-ne0-clause-some : goal.returns-then-self-ne0-clause-some
returns-then-self-ne0-clause-some c =
    let s = c.args.self in
    let fits : s.low < 2 ^ 64 = omega arith in
    let some : 0 < s.low = omega arith in
    (omega (arith, low_below s.low fits some), lowest-low s fits some _ c.lowest.ensures)

pub overflow_add-result : goal.overflow_add-result
overflow_add-result c =
    let s = c.args.self in
    record { fits = omega (arith, low_below s.high (omega arith) (omega arith)) }

pub returns-then-self-ne0-2-clause-some : goal.returns-then-self-ne0-2-clause-some
returns-then-self-ne0-2-clause-some c =
    let s = c.args.self in
    let fits : s.high < 2 ^ 64 = omega arith in
    let some : 0 < s.high = omega arith in (
      omega (arith, low_below s.high fits some),
      lowest-high s (omega arith) fits some _ (ap (λ (k : ℕ). 64 + k) c.lowest-then-self-ne0-2.ensures),
    )

pub returns-clause-none : goal.returns-clause-none
returns-clause-none c = lowest-none c.args.self (omega arith) (omega arith)
