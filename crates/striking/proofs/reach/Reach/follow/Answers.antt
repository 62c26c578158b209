use Rattle.std.proofs.Common.{ap, sym, ◌∙◌}
use Rattle.std.proofs.Common.{set as put}
use Rattle.striking.proofs.Follow.{shut, let_open}
use Rattle.striking.proofs.reach.Reach.follow.Goals as goal

pub returns-then-not-is_open-clause-kept : goal.returns-then-not-is_open-clause-kept
returns-then-not-is_open-clause-kept c =
    let s = c.args.self.now in
    rw (← c.best_outside-outside.ensures) (shut s.lines.m s.lines.sums.now s.inner.now s.lines.added s.set c.args.left s.goal _
    c.args.of.first c.args.of.width (sym c.is_open.ensures ∙ c.if-not-is_open.true)).0

pub returns-then-not-is_open-clause-outer : goal.returns-then-not-is_open-clause-outer
returns-then-not-is_open-clause-outer c =
    let s = c.args.self.now in
    rw (← c.best_outside-outside.ensures) (ap (put c.args.outer.now _)
    (shut s.lines.m s.lines.sums.now s.inner.now s.lines.added s.set c.args.left s.goal _
    c.args.of.first c.args.of.width (sym c.is_open.ensures ∙ c.if-not-is_open.true)).1)

pub returns-clause-kept : goal.returns-clause-kept
returns-clause-kept c =
    let s = c.args.self.now in
    c.ended_tips.ensures ∙ rw (← c.best_outside-outside.ensures)
    (let_open s.lines.m s.lines.sums.now s.inner.now s.lines.added s.set c.args.left s.goal _
    c.args.of.first c.args.of.width (sym c.is_open.ensures ∙ c.if-not-is_open.false)).0

pub returns-clause-outer : goal.returns-clause-outer
returns-clause-outer c =
    let s = c.args.self.now in
    rw (← c.best_outside-outside.ensures) (ap (put c.args.outer.now _)
    (let_open s.lines.m s.lines.sums.now s.inner.now s.lines.added s.set c.args.left s.goal _
    c.args.of.first c.args.of.width (sym c.is_open.ensures ∙ c.if-not-is_open.false)).1)
