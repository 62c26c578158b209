use Rattle.std.proofs.Common.{ℕ, ◌∙◌, arith}
use Rattle.goal_rules.specs.Goal.{goal_tips}
use Rattle.goal_rules.proofs.Same.{same_tips}
use Rattle.striking.proofs.Kept.{struck-before}
use Rattle.goal_rules.proofs.One.{one-tip}
use Rattle.ranks.proofs.Runs.{full-named}
use Rattle.striking.proofs.each.Each.struck_at.Goals as goal

pub returns-then-lowest-highest : goal.returns-then-lowest-highest
returns-then-lowest-highest c =
    let s = c.args.self.now in
    let full = c.requires.full in
    one-tip full.good (full-named full) c.args.i c.requires.line s.goal s.reached
    (omega (arith, c.if-lowest-highest.true, c.highest.ensures, c.lowest.ensures))

pub returns-in-Some : goal.returns-in-Some
returns-in-Some c =
    let s = c.args.self.now in
    let found = c.in-Some.ensures in
    let tips : ℕ → ℕ = goal_tips s.all.m s.quantities.now s.lines.now s.goal in
    struck-before tips c.args.struck.now c.args.i c.in-Some.j found.0 c.requires.struck
    ∙ same_tips s.quantities.now s.lines.now c.requires.full.good.same (omega (arith, found, c.requires)) c.requires.line
    found.1.quantity found.1.set s.all.m s.goal
