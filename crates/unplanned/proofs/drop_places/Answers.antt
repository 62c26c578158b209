use Rattle.std.proofs.Common.{arith, ◌≡◌, ap, ◌∙◌}
use Rattle.std.specs.Slice.Iter.{iter_rest}
use Rattle.std.specs.Iterator.Adapters.{rev_source}
use Rattle.unplanned.proofs.Unread.{all_unread, fewer, is_read, unread_less}
use Rattle.unplanned.proofs.Dropped.{dropped-none, dropped-more}
use Rattle.unplanned.proofs.drop_places.Goals as goal

pub loop-place-init : goal.loop-place-init
loop-place-init c =
    let e : iter_rest (rev_source c.into_iter-place-iterator.result) ≡ c.args.places.now =
    ap (λ x. iter_rest (rev_source x)) c.into_iter-place-iterator.ensures.into_iter_gives ∙ ap iter_rest c.rev-place-items.ensures.source
    ∙ c.iter.ensures.rest
    in
    (tt, tt, rw e (all_unread c.args.places.now), rw e (dropped-none _ _ _ _))

pub loop-place-preserved : goal.loop-place-preserved
loop-place-preserved c =
    let i = c.loop-place.invariant in
    let s = c.in-Some.ensures.steps in
    let d = rw (fewer _ _ i.2 s) at i.3 in
    let more = dropped-more d c.requires (omega (arith, i.3.fewer, i.2.within)) in
    (tt, tt, unread_less _ _ i.2 s, rw (c.from.ensures, ← (is_read _ _ i.2 s)) more)
