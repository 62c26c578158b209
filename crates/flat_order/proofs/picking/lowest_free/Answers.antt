use Rattle.std.proofs.Common.{◌≡◌, ℕ, ◌<◌, ◌^◌, List, length, T, ap, ◌∙◌, arith}
use Rattle.flat_order.specs.declared.sets.PartSet.{PartSet}
use Rattle.flat_order.specs.Sets.{has_part, single, removed, met}
use Rattle.flat_order.specs.Flat.{row_at, Held}
use Rattle.flat_order.proofs.Free.{trying_none, trying_found, trying_more, trying_all, onward_none, onward_more, fewer_parts}
use Rattle.flat_order.proofs.Free.{b_left, held_more, is_free, not_free}
use Rattle.flat_order.proofs.picking.lowest_free.Goals as goal

pub loop-x-init : goal.loop-x-init
loop-x-init c =
    let a = c.args in
    record {
      trying = rw c.sub-rest.ensures (trying_none a.left a.waiting.now a.rows.now a.noted.now c.requires.held a.among);
      onward = rw c.sub-rest.ensures (onward_none (removed a.among a.waiting.now));
      held = c.requires.held;
    }

pub bounds-rows-x : goal.bounds-rows-x
bounds-rows-x c =
    let (l, is) = c.in-Some.ensures.some in
    c.requires.inside c.in-Some.x (c.loop-x.invariant.trying.part c.in-Some.x (is.found l))

-- the parts left that are to precede x
met-is : (row left one others met_set : PartSet) (x : ℕ) → one ≡ single x → others ≡ removed left one → met_set ≡ met row others
    → met_set ≡ met row (removed left (single x))
met-is row left one others met_set x e f g = g ∙ ap (met row) (f ∙ ap (removed left) e)

pub returns-in-None-clause-some : goal.returns-in-None-clause-some
returns-in-None-clause-some c =
    let a = c.args in
    let x = c.in-Some.x in
    let (l, is) = c.in-Some.ensures.some in
    let e = met-is _ _ _ _ _ x c.single-one.ensures c.sub.ensures c.bitand.ensures in
    let low : c.bitand.result.low < 2 ^ 64 = omega arith in
    let high : c.bitand.result.high < 2 ^ 64 = omega arith in
    let free = is_free a.left a.rows.now x (rw e at low) (rw e at high) (rw e at c.in-None.ensures.none) in
    (l, trying_found a.among a.left a.rows.now c.loop-x.rest c.loop-x.invariant.trying x l is free)

pub loop-x-smaller : goal.loop-x-smaller
loop-x-smaller c =
    let (l, is) = c.in-Some.ensures.some in
    rw (c.sub-rest-in-Some-lowest.ensures, c.single-one.ensures) (fewer_parts c.loop-x.rest c.in-Some.x l is)

-- the part waited for has a place
noted_in : (left : PartSet) (rows noted : List PartSet) (waiting one others row : PartSet) (x b : ℕ) → Held left waiting rows noted
    → one ≡ single x → others ≡ removed left one → row ≡ met (row_at rows x) others → T (has_part row b) → b < length noted
noted_in left rows noted waiting one others row x b h e f g t =
    h.places b (b_left left waiting rows noted h x b (rw (met-is _ _ _ _ _ x e f g) at t))

pub bounds-noted-b : goal.bounds-noted-b
bounds-noted-b c =
    let l = c.loop-x in
    let (k, is) = c.in-Some-lowest.ensures.some in
    noted_in c.args.left c.args.rows.now l.noted l.waiting _ _ _ c.in-Some.x c.in-Some-lowest.b l.invariant.held
    c.single-one.ensures c.sub.ensures c.bitand.ensures (is.found k)

pub slice_copy_out-bitor : goal.slice_copy_out-bitor
slice_copy_out-bitor c =
    let l = c.loop-x in
    let (k, is) = c.in-Some-lowest.ensures.some in
    noted_in c.args.left c.args.rows.now l.noted l.waiting _ _ _ c.in-Some.x c.in-Some-lowest.b l.invariant.held
    c.single-one.ensures c.sub.ensures c.bitand.ensures (is.found k)

pub loop-x-preserved : goal.loop-x-preserved
loop-x-preserved c =
    let a = c.args in
    let l = c.loop-x in
    let x = c.in-Some.x in
    let b = c.in-Some-lowest.b in
    let (k, is) = c.in-Some-lowest.ensures.some in
    let e = met-is _ _ _ _ _ x c.single-one.ensures c.sub.ensures c.bitand.ensures in
    let due : T (has_part (met (row_at a.rows.now x) (removed a.left (single x))) b) = rw e at (is.found k) in
    let (h, lowest) = c.in-Some.ensures.some in
    record {
      trying = rw (c.sub-rest-in-Some-lowest.ensures, c.single-one.ensures)
          (trying_more a.among a.left a.rows.now l.rest l.invariant.trying x (not_free a.left a.rows.now x b due));
      onward = rw (c.sub-rest-in-Some-lowest.ensures, c.single-one.ensures) (onward_more l.rest x lowest _ h l.invariant.onward);
      held = rw (c.bitor-in-Some-lowest.ensures, c.bitor.ensures, c.single-one.ensures)
          (held_more a.left l.waiting a.rows.now l.noted l.invariant.held x b due);
    }

pub returns-clause-none : goal.returns-clause-none
returns-clause-none c = trying_all c.args.among c.args.left c.args.rows.now c.loop-x.rest c.loop-x.invariant.trying c.in_default.ensures.none
