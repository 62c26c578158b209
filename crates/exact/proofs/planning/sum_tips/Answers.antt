use Rattle.std.proofs.Common.{◌-◌, ◌^◌, refl, ap, ◌∙◌, arith}
use Rattle.exact.proofs.Sums.{byte_not, next-has, next-tip, next_drops, next_few, next_more, summing-all}
use Rattle.exact.proofs.planning.sum_tips.Goals as goal

pub without-next-requires-clause-small : goal.without-next-requires-clause-small
without-next-requires-clause-small c =
    let s = c.requires in
    omega (arith, c.from.ensures, next-tip s (c.loop-tip.invariant s) c.loop-tip-test.true)

pub without-next-requires-clause-own : goal.without-next-requires-clause-own
without-next-requires-clause-own c =
    let s = c.requires in
    rw c.from.ensures (next-has s (c.loop-tip.invariant s) c.loop-tip-test.true)

pub overflow_sub-placements : goal.overflow_sub-placements
overflow_sub-placements c =
    let s = c.requires in
    next_drops s (c.loop-tip.invariant s) c.loop-tip-test.true c.without-next.result
    (c.without-next.ensures ∙ ap (λ t. c.loop-tip.left - 2 ^ t) c.from.ensures)

pub overflow_add-shared : goal.overflow_add-shared
overflow_add-shared c =
    let s = c.requires in
    let few = next_few s (c.loop-tip.invariant s) c.loop-tip-test.true c.without-next.result
    (c.without-next.ensures ∙ ap (λ t. c.loop-tip.left - 2 ^ t) c.from.ensures) _ refl in
    record { fits = omega (arith, few, c.pairs_among.ensures) }

pub loop-tip-preserved : goal.loop-tip-preserved
loop-tip-preserved c =
    let l = c.loop-tip in
    let left = c.without-next.ensures ∙ ap (λ t. l.left - 2 ^ t) c.from.ensures in
    λ s.
    let more = next_more s (l.invariant s) c.loop-tip-test.true c.without-next.result left _ refl in
    rw (c.pairs_among.ensures, c.from-in-loop-tip.ensures, byte_not _) more

pub returns-clause-pairs : goal.returns-clause-pairs
returns-clause-pairs c =
    let s = c.requires in
    (summing-all s (omega (arith, c.loop-tip-test.false)) (c.loop-tip.invariant s)).0

pub returns-clause-tips : goal.returns-clause-tips
returns-clause-tips c =
    let s = c.requires in
    (summing-all s (omega (arith, c.loop-tip-test.false)) (c.loop-tip.invariant s)).1
