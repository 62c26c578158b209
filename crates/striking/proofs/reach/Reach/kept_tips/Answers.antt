use Rattle.std.proofs.Common.{◌≡◌, ◌+◌, ◌-◌, List, ℕ, bit_or, refl, arith}
use Rattle.model.proofs.Sets.{empty_has}
use Rattle.striking.specs.Striking.{Known}
use Rattle.striking.proofs.Settled.{left_domain}
use Rattle.striking.proofs.Follow.{So, follow_few, follow_more, follow_next, follow_first, follow_all, follow_full}
use Rattle.striking.proofs.reach.Reach.kept_tips.Goals.{After-follow-kept}
use Rattle.striking.proofs.reach.Reach.kept_tips.Goals as goal

pub loop-w-init : goal.loop-w-init
loop-w-init c =
    let s = c.args.self.now in
    record {
      left = left_domain s.domain (λ t h. absurd (rw (empty_has 0 t tt) at h)) (λ e. omega (arith, s.domain.some, e));
      followed = λ lines rest k.
          let e : s.lines.m + 1 - 1 ≡ s.lines.m = omega arith in
          rw e (follow_first k s.set s.goal c.args.outer.now c.requires.size);
    }

pub loop-next-init : goal.loop-next-init
loop-next-init c = record {
  left = c.loop-w.invariant.left;
  found = c.next_open-next.ensures.found;
  followed = λ lines rest k. c.next_open-next.ensures.outer c.loop-w.kept lines rest k (c.loop-w.invariant.followed lines rest k);
}

pub follow-kept-requires-clause-left : goal.follow-kept-requires-clause-left
follow-kept-requires-clause-left c = c.loop-next.invariant.left

pub follow-kept-requires-clause-narrow : goal.follow-kept-requires-clause-narrow
follow-kept-requires-clause-narrow c =
    let (lines, rest, k) = c.requires.known in
    let found = rw c.in-Some.is at c.loop-next.invariant.found in
    let so = rw c.in-Some.is at (c.loop-next.invariant.followed lines rest k) in
    omega (arith, follow_few k c.args.self.now.set c.args.self.now.goal so (omega arith) (omega (arith, found)))

-- one interval more is followed
more : (c : After-follow-kept) → (lines rest : List ℕ) → (k : Known c.args.self.now.lines.m c.args.self.now.lines.added lines rest
    c.args.self.now.lines.sums.now c.args.self.now.inner.now c.args.self.now.upper.now)
    → So k c.args.self.now.set c.args.self.now.goal c.follow-kept.new.outer (bit_or c.loop-next.kept c.follow-kept.result) (c.loop-w.w - 1)
    (c.in-Some.a + 1)
more c lines rest k =
    let found = rw c.in-Some.is at c.loop-next.invariant.found in
    let so = rw c.in-Some.is at (c.loop-next.invariant.followed lines rest k) in
    rw c.follow-kept.ensures.outer
    (follow_more k c.args.self.now.set c.args.self.now.goal so (omega arith) (omega (arith, found)) c.follow-kept.ensures.kept refl)

pub returns-then-kept-self : goal.returns-then-kept-self
returns-then-kept-self c = λ lines rest k.
    follow_full k c.args.self.now.set c.args.self.now.goal (more (goal.at.returns-then-kept-self c).After-follow-kept lines rest k)
    c.if-kept-self.true

pub loop-next-preserved : goal.loop-next-preserved
loop-next-preserved c = record {
  left =
      let (lines, rest, k) = c.requires.known in
      let now = more (goal.at.loop-next-preserved c).After-follow-kept lines rest k in
      left_domain c.args.self.now.domain (λ t h. (now.right t h).0) c.if-kept-self.false;
  found = c.next_open-next-in-Some.ensures.found;
  followed = λ lines rest k.
      c.next_open-next-in-Some.ensures.outer _ lines rest k (more (goal.at.loop-next-preserved c).After-follow-kept lines rest k);
}

pub loop-w-preserved : goal.loop-w-preserved
loop-w-preserved c = record {
  left = c.loop-next.invariant.left;
  followed = λ lines rest k.
      follow_next k c.args.self.now.set c.args.self.now.goal (omega arith) (omega arith)
      (rw c.in_default.is at (c.loop-next.invariant.followed lines rest k));
}

pub returns : goal.returns
returns c = λ lines rest k.
    let e : c.loop-w.w - 1 ≡ 0 = omega arith in
    follow_all k c.args.self.now.set c.args.self.now.goal (rw e at (c.loop-w.invariant.followed lines rest k))
