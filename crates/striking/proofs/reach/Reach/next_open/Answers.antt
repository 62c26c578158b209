use Rattle.std.proofs.Common.{◌≡◌, ◌+◌, ◌-◌, sym, ◌∙◌, arith}
use Rattle.striking.proofs.Follow.{follow_closed}
use Rattle.striking.proofs.reach.Reach.next_open.Goals as goal

pub loop-a-preserved : goal.loop-a-preserved
loop-a-preserved c = λ kept lines rest k f.
    follow_closed k c.args.self.now.set c.args.self.now.goal (c.loop-a.invariant kept lines rest k f) (omega arith) (omega arith)
    (rw c.entry_at.ensures.entry at (sym c.is_open.ensures ∙ c.if-is_open.false))

pub returns-clause-outer : goal.returns-clause-outer
returns-clause-outer c = λ kept lines rest k f.
    let e : c.loop-a.a ≡ c.args.self.now.lines.m + 1 - c.args.w = omega arith in
    rw e at (c.loop-a.invariant kept lines rest k f)
