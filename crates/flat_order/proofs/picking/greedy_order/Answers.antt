use Rattle.std.proofs.Common.{Option, Some, None, IfNone, ◌≡◌, ℕ, ◌+◌, ◌≤◌, ◌<◌, ◌&&◌, List, ltb, length, get_or, take, ap, ◌∙◌, arith}
use mathlib.Core.Bool.{true≢false}
use lib.Dec.{ltb→lt}
use lib.ListN.{replicate, length-replicate}
use lib.Seq.{length-take-le}
use Rattle.flat_order.specs.declared.sets.PartSet.{PartSet}
use Rattle.flat_order.specs.Sets.{has_part, joined, removed}
use Rattle.flat_order.specs.Flat.{row_at, candidates_at, is_pick, PartsAt}
use Rattle.flat_order.proofs.Below.{before-none, before_more, parts_taken}
use Rattle.flat_order.proofs.Levels.{levels_next, levels_most, end_in, end_stays, end_of-taken, end_in_taken}
use Rattle.flat_order.proofs.Picks.{chosen-passes, pick_in, kept_none, kept_more, placing_none, placing_more, placing_all, among_left}
use Rattle.flat_order.proofs.Picks.{found, found_none}
use Rattle.flat_order.proofs.Free.{held_none, held_less}
use Rattle.flat_order.proofs.picking.greedy_order.Goals as goal

pub loop-p-init : goal.loop-p-init
loop-p-init g c =
    let a = c.args in
    record {
      kept = kept_none a.lasts.now _ a.all (omega (arith, c.requires.room.parts, length-replicate {A = ℕ} g.row.PLACES 0)) c.requires.all;
      placing = λ next r. placing_none a.firsts.now a.lasts.now a.rows.now a.start next (replicate g.row.PLACES 0) a.all c.requires.all;
      levels = c.requires.levels;
      low = omega arith;
      high = omega arith;
      stays = λ e. absurd (true≢false e);
      begun = before-none a.firsts.now (length a.lasts.now);
      held = held_none a.all a.rows.now g.row.PLACES (λ x t.
          omega (arith, c.requires.room.parts, ltb→lt x (length a.lasts.now) (rw (c.requires.all x) at t)));
    }

pub tight_end-end-requires-clause-stays : goal.tight_end-end-requires-clause-stays
tight_end-end-requires-clause-stays g c =
    let l = c.loop-p in
    λ z h. end_in_taken (length c.args.lasts.now) l.p l.levels l.end l.invariant.levels.size
    (l.invariant.stays z h)

pub tight_end-end-requires-clause-some : goal.tight_end-end-requires-clause-some
tight_end-end-requires-clause-some g c =
    let l = c.loop-p in
    let n = length c.args.lasts.now in
    let room : n ≤ length l.levels = l.invariant.levels.size in
    λ is. omega (
      arith,
      end_in l.left c.args.lasts.now l.levels l.p l.invariant.levels l.invariant.kept.count _ c.requires.lasts
          c.loop-p-test.true (end_of-taken n l.p l.levels _ room is),
      length-take-le n l.levels room,
    )

pub candidates-among-requires-clause-to : goal.candidates-among-requires-clause-to
candidates-among-requires-clause-to g c =
    let l = c.loop-p in
    let is = end_of-taken (length c.args.lasts.now) l.p l.levels c.tight_end-end.result
    l.invariant.levels.size c.tight_end-end.ensures in
    let k = end_in l.left c.args.lasts.now l.levels l.p l.invariant.levels l.invariant.kept.count _ c.requires.lasts c.loop-p-test.true
    is in
    omega (arith, k, c.requires.places)

pub free_on-requires-clause-inside : goal.free_on-requires-clause-inside
free_on-requires-clause-inside g c =
    let l = c.loop-p in
    let e = c.candidates-among.ensures ∙ ap (λ s. candidates_at l.p c.tight_end-end.result s c.args.ends.now) c.bitand.ensures in
    λ x t. omega (
      arith,
      c.requires.sized.rows,
      l.invariant.kept.inside x (among_left l.left c.bitor-begun.result c.args.ends.now l.p _ x (rw e at t)),
    )

-- the parts begun at the next position
begun_more : (firsts : List ℕ) (starts : List PartSet) (begun : PartSet) (n p : ℕ) → PartsAt (take n firsts) (length (take n firsts)) starts
    → n ≤ length firsts → p + 1 < length starts → ((x : ℕ) → has_part begun x ≡ (ltb x n && ltb (get_or firsts x 0) p))
    → (x : ℕ) → has_part (joined begun (row_at starts (p + 1))) x ≡ (ltb x n && ltb (get_or firsts x 0) (p + 1))
begun_more firsts starts begun n p at l k h =
    before_more firsts starts n p begun k (parts_taken firsts n starts (rw (length-take-le n firsts l) at at)) h

if-none : {A P : Type 0} (o : Option A) → P → IfNone o P
if-none None p = p
if-none (Some x) p = tt

pub returns-in_err-x-clause-none : goal.returns-in_err-x-clause-none
returns-in_err-x-clause-none g c =
    let a = c.args in
    let l = c.loop-p in
    let i = l.invariant in
    let is = end_of-taken (length c.args.lasts.now) l.p l.levels c.tight_end-end.result
    l.invariant.levels.size c.tight_end-end.ensures in
    let begins : (y : ℕ) → has_part c.bitor-begun.result y ≡ (ltb y (length a.lasts.now) && ltb (get_or a.firsts.now y 0) (l.p + 1)) =
    rw c.bitor-begun.ensures (begun_more _ _ _ _ _ c.by_position-starts.ensures.places c.requires.sized.firsts
    (omega (arith, c.by_position-starts.ensures.size, c.requires.room.positions, c.loop-p-test.true)) i.begun) in
    let e = c.candidates-among.ensures ∙ ap (λ s. candidates_at l.p c.tight_end-end.result s a.ends.now) c.bitand.ensures in
    if-none c.from_residual.result
    (λ next r. found_none a.firsts.now a.lasts.now a.rows.now a.ends.now l.p c.tight_end-end.result l.order l.levels l.left l.ready
    c.bitor-begun.result _
    c.loop-p-test.true i.kept i.levels is i.low i.high c.requires.lasts c.requires.ends begins e a.start next (i.placing next r)
    c.in_err-x.ensures.none)

pub bounds-lasts-x : goal.bounds-lasts-x
bounds-lasts-x g c =
    let l = c.loop-p in
    let e = c.candidates-among.ensures ∙ ap (λ s. candidates_at l.p c.tight_end-end.result s c.args.ends.now) c.bitand.ensures in
    pick_in c.args.rows.now l.left _ _ c.args.ends.now _ _ c.in_ok-x.x _ l.invariant.kept.inside e (chosen-passes c.in_ok-x.ensures.some.1)

pub after-ready-requires : goal.after-ready-requires
after-ready-requires g c =
    let l = c.loop-p in
    let e = c.candidates-among.ensures ∙ ap (λ s. candidates_at l.p c.tight_end-end.result s c.args.ends.now) c.bitand.ensures in
    c.requires.after c.in_ok-x.x
    (pick_in c.args.rows.now l.left _ _ c.args.ends.now _ _ c.in_ok-x.x _ l.invariant.kept.inside e (chosen-passes c.in_ok-x.ensures.some.1))

pub bounds-noted-x : goal.bounds-noted-x
bounds-noted-x g c =
    let l = c.loop-p in
    let e = c.candidates-among.ensures ∙ ap (λ s. candidates_at l.p c.tight_end-end.result s c.args.ends.now) c.bitand.ensures in
    let k = pick_in c.args.rows.now l.left _ _ c.args.ends.now _ _ c.in_ok-x.x _ l.invariant.kept.inside e
    (chosen-passes c.in_ok-x.ensures.some.1) in
    omega (arith, k, c.requires.room.parts)

pub raise-reached-requires-clause-to : goal.raise-reached-requires-clause-to
raise-reached-requires-clause-to g c =
    let l = c.loop-p in
    let e = c.candidates-among.ensures ∙ ap (λ s. candidates_at l.p c.tight_end-end.result s c.args.ends.now) c.bitand.ensures in
    let k = pick_in c.args.rows.now l.left _ _ c.args.ends.now _ _ c.in_ok-x.x _ l.invariant.kept.inside e
    (chosen-passes c.in_ok-x.ensures.some.1) in
    omega (arith, c.from-last.ensures, c.requires.lasts c.in_ok-x.x k, l.invariant.levels.size)

pub raise-reached-requires-clause-few : goal.raise-reached-requires-clause-few
raise-reached-requires-clause-few g c =
    let l = c.loop-p in
    let e = c.candidates-among.ensures ∙ ap (λ s. candidates_at l.p c.tight_end-end.result s c.args.ends.now) c.bitand.ensures in
    let k = pick_in c.args.rows.now l.left _ _ c.args.ends.now _ _ c.in_ok-x.x _ l.invariant.kept.inside e
    (chosen-passes c.in_ok-x.ensures.some.1) in
    omega (arith, c.from-last.ensures, c.requires.lasts c.in_ok-x.x k, c.requires.sized.parts)

pub raise-reached-requires-clause-fits : goal.raise-reached-requires-clause-fits
raise-reached-requires-clause-fits g c =
    let l = c.loop-p in
    let e = c.candidates-among.ensures ∙ ap (λ s. candidates_at l.p c.tight_end-end.result s c.args.ends.now) c.bitand.ensures in
    let k = pick_in c.args.rows.now l.left _ _ c.args.ends.now _ _ c.in_ok-x.x _ l.invariant.kept.inside e
    (chosen-passes c.in_ok-x.ensures.some.1) in
    let last = c.requires.lasts c.in_ok-x.x k in
    λ v h k. omega (
      arith,
      last,
      c.from-last.ensures,
      c.requires.sized.parts,
      levels_most l.left c.args.lasts.now l.levels l.p l.invariant.levels l.invariant.kept.count v
          (omega arith) (omega arith),
    )

pub loop-p-preserved : goal.loop-p-preserved
loop-p-preserved g c =
    let a = c.args in
    let l = c.loop-p in
    let i = l.invariant in
    let is = end_of-taken (length c.args.lasts.now) l.p l.levels c.tight_end-end.result
    l.invariant.levels.size c.tight_end-end.ensures in
    let begins : (y : ℕ) → has_part c.bitor-begun.result y ≡ (ltb y (length a.lasts.now) && ltb (get_or a.firsts.now y 0) (l.p + 1)) =
    rw c.bitor-begun.ensures (begun_more _ _ _ _ _ c.by_position-starts.ensures.places c.requires.sized.firsts
    (omega (arith, c.by_position-starts.ensures.size, c.requires.room.positions, c.loop-p-test.true)) i.begun) in
    let e = c.candidates-among.ensures ∙ ap (λ s. candidates_at l.p c.tight_end-end.result s a.ends.now) c.bitand.ensures in
    let x = c.in_ok-x.x in
    let v = c.tight_end-end.result in
    let (is_pick, t, m) = found a.firsts.now a.lasts.now a.rows.now a.ends.now l.p v l.order l.levels l.left l.ready
    c.bitor-begun.result _
    c.loop-p-test.true i.kept i.levels is i.low i.high c.requires.lasts c.requires.ends begins e
    x c.in_ok-x.ensures.some.1 in
    let h = i.kept.inside x t in
    let less = c.sub-left.ensures ∙ ap (removed l.left) c.single.ensures in
    let raised = rw c.from-last.ensures at c.raise-reached.ensures in
    record {
      kept = rw less (kept_more a.lasts.now l.order l.left l.p i.kept x h t);
      placing = λ next r. rw (less, r.each x c.after-ready.result h c.after-ready.ensures)
          (placing_more a.firsts.now a.lasts.now a.rows.now a.start next l.order l.left l.ready l.p c.loop-p-test.true
          (i.placing next r) i.kept.size x is_pick h);
      levels = rw less (levels_next l.left a.lasts.now l.levels l.p i.levels x h t _ _ raised);
      low = omega arith;
      high = omega arith;
      stays = λ z q. end_stays _ l.p l.levels _ v _ _ is raised m z q;
      begun = begins;
      held = rw (less, c.sub-waiting.ensures) (held_less l.left _ a.rows.now _ c.in_ok-x.ensures.held x);
    }

pub returns-clause-some : goal.returns-clause-some
returns-clause-some g c =
    λ next r. placing_all c.args.firsts.now c.args.lasts.now c.args.rows.now c.args.start next c.loop-p.order c.loop-p.left c.loop-p.ready
    c.loop-p.p (omega arith) (c.loop-p.invariant.placing next r)
