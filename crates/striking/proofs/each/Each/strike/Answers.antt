use Rattle.std.proofs.Common.{◌≡◌, ℕ, take, take_all, length, refl, ap, sym, ◌∙◌, arith}
use Rattle.model.specs.Count.{list_of}
use Rattle.model.proofs.ListOf.{filled_more}
use Rattle.goal_rules.specs.Goal.{goal_tips, strike}
use Rattle.striking.proofs.each.Each.strike.Goals as goal

pub loop-i-init : goal.loop-i-init
unfolding list_of
loop-i-init c = refl

pub loop-i-preserved : goal.loop-i-preserved
loop-i-preserved c =
    let s = c.args.self.now in
    let tips : ℕ → ℕ = goal_tips s.all.m s.quantities.now s.lines.now s.goal in
    filled_more tips c.loop-i.struck c.loop-i.i _ (omega arith) c.loop-i.invariant c.struck_at.ensures

pub returns : goal.returns
unfolding strike
returns c =
    let s = c.args.self.now in
    let n : c.loop-i.i ≡ length s.lines.now = omega arith in
    let all : take c.loop-i.i c.loop-i.struck ≡ c.loop-i.struck = take_all c.loop-i.i c.loop-i.struck (omega arith) in
    sym all ∙ c.loop-i.invariant ∙ ap (list_of (goal_tips s.all.m s.quantities.now s.lines.now s.goal)) n
