use Rattle.std.proofs.Common.{arith}
use Rattle.model.proofs.Run.{low-high, high-below}
use Rattle.goal_rules.specs.Tables.{Whole}
use Rattle.striking.proofs.Early.{firsts-out, firsts-none, found-more, found_past, found_all}
use Rattle.striking.proofs.reach.Reach.firsts_from.Goals as goal

pub overflow_add-w : goal.overflow_add-w
overflow_add-w c =
    let s = c.args.self.now in
    record { fits = omega (arith, c.highest.ensures, high-below s.lines.ready.rack s.domain, s.lines.ready.rack) }

pub overflow_step-w : goal.overflow_step-w
overflow_step-w c =
    let s = c.args.self.now in
    omega (arith, c.highest.ensures, low-high s.lines.ready.rack s.domain)

pub returns-then-known-self : goal.returns-then-known-self
returns-then-known-self c =
    let s = c.args.self.now in
    found_all c.if-known-self.true (λ b v t h.
    (firsts-out s.lines.m s.lines.sums.now s.inner.now s.upper.now s.lines.added s.set s.goal b v t h).0) c.loop-w.invariant

pub loop-w-preserved : goal.loop-w-preserved
loop-w-preserved c =
    let s = c.args.self.now in
    let whole : Whole s.lines.m s.set c.args.a c.loop-w.w = record {
      from = c.requires.first;
      to = omega (arith, c.highest.ensures, c.loop-w.auto.w);
      ends = omega (arith, c.loop-w-test.true, c.widest_live-w-end.ensures.inside);
    } in
    found-more whole c.firsts_in-known.ensures c.loop-w.invariant

pub returns : goal.returns
returns c =
    let s = c.args.self.now in
    found_past (λ v t p x h. firsts-none s.lines.m s.lines.sums.now s.inner.now s.upper.now s.lines.added s.set s.goal c.args.a v t
    (c.widest_live-w-end.ensures.past v x.ends (omega arith)) h) c.loop-w.invariant
