use Rattle.std.proofs.Common.{◌+◌, sym, ◌∙◌, arith}
use Rattle.flat_order.specs.Flat.{row_at}
use Rattle.flat_order.proofs.Settled.{settling_all}
use Rattle.flat_order.proofs.Waiting.{before_none, turn_begins, turn_more, turn_in, turn_later, turn_ends, viewed_all}
use Rattle.flat_order.proofs.Ended.{ended-none, ended-set, ended_next, ended-count}
use Rattle.flat_order.proofs.settling.settle_lasts.Goals as goal

pub loop-e-init : goal.loop-e-init
loop-e-init c =
    let a = c.args in
    let r = c.requires in
    record {
      before = before_none a.rows.now a.lasts.now a.all r.all r.within;
      ended = ended-none a.all a.lasts.now a.ends.now a.levels.now r.ends r.places r.levels;
    }

pub loop-b-init : goal.loop-b-init
loop-b-init c =
    let l = c.loop-e in
    let i = l.invariant in
    record {
      turn = rw (c.bitand-due.ensures, c.bitor.ensures)
          (turn_begins c.args.rows.now c.args.lasts.now c.requires.few l.settled l.lasts l.left l.due l.e
          (row_at l.ends (l.e + 1)) (λ x. i.ended.rest (l.e + 1) x (omega arith) (omega (arith, c.loop-e-test.true, i.ended.size))) i.before);
      ended = i.ended;
    }

pub loop-b-smaller : goal.loop-b-smaller
loop-b-smaller c =
    let l = c.loop-b in
    let (h, is) = c.in-Some.ensures.some in
    let (k, m, t) = turn_in c.args.rows.now c.args.lasts.now c.requires.few l.settled l.lasts l.left l.due c.loop-e.e l.invariant.turn
    c.in-Some.b is h in
    omega (arith, m)

pub loop-b-preserved : goal.loop-b-preserved
loop-b-preserved c =
    let a = c.args in
    let l = c.loop-b in
    let e = c.loop-e.e in
    let b = c.in-Some.b in
    let (h, is) = c.in-Some.ensures.some in
    let (k, m, t) = turn_in a.rows.now a.lasts.now c.requires.few l.settled l.lasts l.left l.due e l.invariant.turn b is h in
    record {
      turn = rw (c.bitand-due-in-Some.ensures, c.bitor-in-Some.ensures, c.sub-left.ensures, c.single.ensures)
          (turn_more a.rows.now a.lasts.now c.requires.few l.settled l.lasts l.left l.due e l.invariant.turn b c.loop-e-test.true is h);
      ended = ended-set a.all a.lasts.now l.lasts l.settled e c.loop-e.ends c.loop-e.levels l.left l.due c.requires.all l.invariant.turn.waiting
          l.invariant.ended b t;
    }

pub loop-e-preserved : goal.loop-e-preserved
loop-e-preserved c =
    let a = c.args in
    let l = c.loop-b in
    let e = c.loop-e.e in
    let t = l.invariant.turn in
    let none = c.in_default.ensures.none in
    record {
      before = turn_ends a.rows.now a.lasts.now c.requires.few l.settled l.lasts l.left l.due e t none;
      ended = ended_next a.all a.lasts.now l.lasts l.settled e c.loop-e.ends c.loop-e.levels l.left l.due c.requires.all t.waiting l.invariant.ended
          (turn_later a.rows.now a.lasts.now c.requires.few l.settled l.lasts l.left l.due e t none) c.loop-e-test.true _
          c.sub.ensures;
    }

pub returns-clause-settled : goal.returns-clause-settled
returns-clause-settled c =
    let a = c.args in
    let l = c.loop-e in
    let b = l.invariant.before in
    let all = ended-count a.all a.lasts.now l.lasts l.settled l.e l.ends l.levels l.left l.due c.requires.all b.waiting l.invariant.ended
    c.loop-e-test.false in
    λ firsts. sym (viewed_all a.lasts.now l.lasts l.left l.due l.e l.settled all b.waiting)
    ∙ settling_all a.rows.now a.lasts.now _ l.left l.settled all b.settling firsts
