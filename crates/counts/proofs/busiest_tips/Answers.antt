use Rattle.counts.specs.Counts.{count_at}
use Rattle.std.proofs.Common.{arith, ◌≡◌, refl, ap, ◌∙◌, sym}
use Rattle.std.specs.Slice.Iter.{iter_rest}
use Rattle.std.specs.Iterator.Adapters.{rev_source}
use Rattle.counts.proofs.Read.{all_unread, top_start, unread_less, last_odd, last_even, top_lt, busy_none, busy_some}
use Rattle.counts.proofs.busiest_tips.Goals as goal

pub loop-plane-init : goal.loop-plane-init
loop-plane-init c =
    let e : iter_rest (rev_source c.into_iter-plane-iterator.result) ≡ c.args.planes.now =
    ap (λ x. iter_rest (rev_source x)) c.into_iter-plane-iterator.ensures.into_iter_gives ∙ ap iter_rest c.rev-plane-items.ensures.source
    ∙ c.iter.ensures.rest
    in
    (tt, tt, rw e (all_unread c.args.planes.now), rw (e, c.all_tips-tips.ensures) (top_start c.args.planes.now c.args.rack))

pub overflow_add-top : goal.overflow_add-top
overflow_add-top c = record { fits = omega (arith, top_lt _ _ (omega arith) c.loop-plane.invariant.3) }

pub overflow_add-top-then-higher-ne0 : goal.overflow_add-top-then-higher-ne0
overflow_add-top-then-higher-ne0 c = record { fits = omega (arith, top_lt _ _ (omega arith) c.loop-plane.invariant.3) }

pub loop-plane-preserved : goal.loop-plane-preserved
loop-plane-preserved c =
    let i = c.loop-plane.invariant in
    (tt, tt, unread_less _ _ _ _ i.2 c.in-Some.ensures.steps i.3, last_even _ _ _ _ i.2 c.in-Some.ensures.steps i.3 c.if-higher-ne0.false)

pub loop-plane-preserved-then-higher-ne0 : goal.loop-plane-preserved-then-higher-ne0
loop-plane-preserved-then-higher-ne0 c =
    let i = c.loop-plane.invariant in
    (tt, tt, unread_less _ _ _ _ i.2 c.in-Some.ensures.steps i.3, last_odd _ _ _ _ i.2 c.in-Some.ensures.steps i.3 c.if-higher-ne0.true)

pub returns-then-top-eq0 : goal.returns-then-top-eq0
returns-then-top-eq0 c =
    let whole = rw c.in-None.ensures.steps.0 at c.loop-plane.invariant.3 in
    record {
      top = sym c.if-top-eq0.true ∙ whole.top-is;
      tips = sym (busy_none (count_at c.args.planes.now) c.args.rack 0 refl);
    }

pub returns : goal.returns
returns c =
    let whole = rw c.in-None.ensures.steps.0 at c.loop-plane.invariant.3 in
    record {
      top = whole.top-is;
      tips = whole.tips_are ∙ sym (busy_some (count_at c.args.planes.now) c.args.rack c.loop-plane.top c.if-top-eq0.false);
    }
