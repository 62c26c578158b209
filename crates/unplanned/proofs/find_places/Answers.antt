use Rattle.std.proofs.Common.{arith, ◌≡◌, Bool, true, false, cond, refl, ◌∙◌}
use mir.Val.{bool_byte}
use Rattle.unplanned.proofs.Found.{found-more}
use Rattle.unplanned.proofs.find_places.Goals as goal

one_or_none : (b : Bool) → bool_byte b ≡ cond b 1 0
one_or_none true = refl
one_or_none false = refl

pub loop-k-preserved : goal.loop-k-preserved
loop-k-preserved c =
    let e = c.from-found.ensures ∙ one_or_none c.has_tip.result in
    rw (e, c.has_tip.ensures, c.from.ensures) (found-more (omega (arith, c.loop-k.invariant.rising.most)) c.loop-k.invariant)
