use Rattle.std.proofs.Common.{◌+◌, get_or, arith}
use Rattle.flat_order.specs.Flat.{flat_task}
use Rattle.windows.proofs.Arrays.{below}
use Rattle.windows.proofs.Narrowing.{latest_in, latest_no}
use Rattle.windows.proofs.Seen.{since_seen}
use Rattle.windows.proofs.bounding.narrow_last.Goals as goal

pub loop-last-init : goal.loop-last-init
loop-last-init g c =
    let a = c.args in
    let r = c.requires in
    record {
      seen = r.seen;
      lower = λ j. omega arith;
      higher = λ j. omega arith;
      to = (latest_in (flat_task a.firsts.now a.lasts.now a.rows.now) (below _ _ _ r.part.ready) a.i r.part.part r.part.solvable).1;
      inside = r.part.ready.closes a.i r.part.part;
    }

pub loop-last-smaller-in-Some : goal.loop-last-smaller-in-Some
loop-last-smaller-in-Some g c =
    let a = c.args in
    let l = c.loop-last in
    let seen = since_seen (flat_task a.firsts.now a.lasts.now a.rows.now) a.i (get_or l.last a.i 0 + c.reach.result) c.requires.part.part _ l.last
    c.note.new.last c.in-Some.ensures.some c.note.ensures.last in
    omega (arith, seen, c.reach.ensures.some, c.reach.ensures.most, c.loop-last-test.true)

pub loop-last-preserved : goal.loop-last-preserved
loop-last-preserved g c =
    let a = c.args in
    let r = c.requires in
    let l = c.loop-last in
    let i = l.invariant in
    record {
      seen = i.seen;
      lower = i.lower;
      higher = i.higher;
      to = omega (
        arith,
        latest_no (flat_task a.firsts.now a.lasts.now a.rows.now) (below _ _ _ r.part.ready) a.i r.part.part r.part.solvable
            (get_or l.last a.i 0 + c.reach.result) c.in-None.ensures.none,
      );
      inside = omega (arith, i.inside);
    }
