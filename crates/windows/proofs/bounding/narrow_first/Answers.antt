use Rattle.std.proofs.Common.{◌-◌, get_or, arith}
use Rattle.flat_order.specs.Flat.{flat_task}
use Rattle.windows.proofs.Arrays.{below}
use Rattle.windows.proofs.Narrowing.{soonest_in, soonest_no}
use Rattle.windows.proofs.Seen.{due_seen}
use Rattle.windows.proofs.bounding.narrow_first.Goals as goal

pub loop-from-init : goal.loop-from-init
loop-from-init g c =
    let a = c.args in
    let r = c.requires in
    record {
      seen = r.seen;
      lower = λ j. omega arith;
      from = (soonest_in (flat_task a.firsts.now a.lasts.now a.rows.now) (below _ _ _ r.part.ready) a.i r.part.part r.part.solvable).0;
    }

pub loop-from-smaller-in-Some : goal.loop-from-smaller-in-Some
loop-from-smaller-in-Some g c =
    let a = c.args in
    let l = c.loop-from in
    let seen = due_seen (flat_task a.firsts.now a.lasts.now a.rows.now) a.i (get_or l.first a.i 0 - c.reach.result) c.requires.part.part _ l.first
    c.note.new.first c.in-Some.ensures.some c.note.ensures.first in
    omega (arith, seen, c.reach.ensures.some, c.reach.ensures.most, c.loop-from-test.true)

pub loop-from-preserved : goal.loop-from-preserved
loop-from-preserved g c =
    let a = c.args in
    let r = c.requires in
    let l = c.loop-from in
    let i = l.invariant in
    record {
      seen = i.seen;
      lower = i.lower;
      from = omega (
        arith,
        soonest_no (flat_task a.firsts.now a.lasts.now a.rows.now) (below _ _ _ r.part.ready) a.i r.part.part r.part.solvable
            (get_or l.first a.i 0 - c.reach.result) c.in-None.ensures.none,
      );
    }
