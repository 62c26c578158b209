use Rattle.std.specs.Prelude.{Ok}
use Rattle.std.proofs.Common.{rules}
use mathlib.Core.Path.{refl, ap, ◌∙◌}
use Rattle.refusal.proofs.Laws.{err_of, reason_not_0}
use Rattle.board.specs.Told.{answered}
use Rattle.board.proofs.Sets.{Full}
use Rattle.board.proofs.GoalRule.{goal_ruled, goal-answer, goal-refused}
use Rattle.board.proofs.Stopped.{goal_stopped}
use Rattle.board.proofs.Board.goal.Goals.{After-lines}
use Rattle.board.proofs.CasesTold.{goal_told}
use Rattle.board.proofs.Board.goal.Goals as goal

full : (c : After-lines) → Full c.args.self.now
full c = record { sets_full = search rules; quantities_full = search rules }

pub returns-in_err-lines-clause-answer : goal.returns-in_err-lines-clause-answer
returns-in_err-lines-clause-answer c =
    let x = c.in_err-lines.field-0.0 in
    let e = err_of _ x c.from_residual.ensures in
    ap (answered c.args.self.now) e ∙ goal_stopped x c.args.self.now c.in_err-lines.ensures.refusal _

pub returns-in_err-lines-clause-rule : goal.returns-in_err-lines-clause-rule
returns-in_err-lines-clause-rule c =
    goal_ruled c.args.self.now c.args.goal (full (goal.at.returns-in_err-lines-clause-rule c).After-lines) (returns-in_err-lines-clause-answer c)

pub returns-in_err-goal-clause-answer : goal.returns-in_err-goal-clause-answer
returns-in_err-goal-clause-answer c =
    let x = c.in_err-goal.field-0.0 in
    let e = err_of _ x c.from_residual-in_err-goal.ensures in
    let l = c.in_ok-lines.ensures in
    ap (answered c.args.self.now) e
    ∙ goal-refused c.args.self.now _ (full (goal.at.returns-in_err-goal-clause-answer c).After-lines) c.in_ok-lines.ensures.refusal refl
    (rw (l.rack, l.quantities, l.sets) at c.in_err-goal.ensures.answer) (reason_not_0 x.reason)

pub returns-in_err-goal-clause-rule : goal.returns-in_err-goal-clause-rule
returns-in_err-goal-clause-rule c =
    goal_ruled c.args.self.now c.args.goal (full (goal.at.returns-in_err-goal-clause-rule c).After-lines) (returns-in_err-goal-clause-answer c)

pub returns-clause-answer : goal.returns-clause-answer
returns-clause-answer c =
    let all = full (goal.at.returns-clause-answer c).After-lines in
    let l = c.in_ok-lines.ensures in
    goal-answer c.args.self.now _ all l.refusal refl
    (rw (l.rack, l.quantities, l.sets) at c.in_ok-goal.ensures.answer) (rw (l.rack, l.quantities, l.sets) at c.in_ok-goal.ensures.sets)

pub returns-clause-rule : goal.returns-clause-rule
returns-clause-rule c =
    goal_ruled c.args.self.now c.args.goal (full (goal.at.returns-clause-rule c).After-lines) (returns-clause-answer c)

pub returns-in_err-lines-clause-cases : goal.returns-in_err-lines-clause-cases
returns-in_err-lines-clause-cases c =
    goal_told c.args.self.now (full (goal.at.returns-in_err-lines-clause-cases c).After-lines) _ _ (returns-in_err-lines-clause-answer c)

pub returns-in_err-goal-clause-cases : goal.returns-in_err-goal-clause-cases
returns-in_err-goal-clause-cases c =
    goal_told c.args.self.now (full (goal.at.returns-in_err-goal-clause-cases c).After-lines) _ _ (returns-in_err-goal-clause-answer c)

pub returns-clause-cases : goal.returns-clause-cases
returns-clause-cases c =
    goal_told c.args.self.now (full (goal.at.returns-clause-cases c).After-lines) (Ok (tt {0})) _ (returns-clause-answer c)
