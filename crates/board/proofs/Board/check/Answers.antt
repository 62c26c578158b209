use mathlib.Core.Path.{ap, ◌∙◌}
use Rattle.board.specs.Told.{answered}
use Rattle.board.proofs.Answers.{check_answer}
use Rattle.board.proofs.Stopped.{check_stopped, check_rule}
use Rattle.refusal.proofs.Laws.{err_of}
use Rattle.std.proofs.Common.{rules}
use Rattle.board.proofs.Sets.{Full}
use Rattle.board.proofs.Board.check.Goals.{After-lines}
use Rattle.board.proofs.CasesTold.{check_told}
use Rattle.board.proofs.Board.check.Goals as goal

pub returns-in_err-lines-clause-answer : goal.returns-in_err-lines-clause-answer
returns-in_err-lines-clause-answer c =
    let x = c.in_err-lines.field-0.0 in
    let e = err_of _ x c.from_residual.ensures in
    ap (answered c.args.self.now) e ∙ check_stopped x c.args.self.now c.in_err-lines.ensures.refusal _ _ _

pub returns-in_err-lines-clause-rule : goal.returns-in_err-lines-clause-rule
returns-in_err-lines-clause-rule c =
    let x = c.in_err-lines.field-0.0 in
    let e = err_of _ x c.from_residual.ensures in
    rw e (check_rule x c.args.self.now c.in_err-lines.ensures.refusal _ _ _)

pub returns-clause-answer : goal.returns-clause-answer
returns-clause-answer c = (check_answer c.args.self.now c.in_ok-lines.ensures.refusal _ _ _
    (rw (c.in_ok-lines.ensures.rack, c.in_ok-lines.ensures.quantities, c.in_ok-lines.ensures.sets) at c.check.ensures.answer)
    (rw (c.in_ok-lines.ensures.rack, c.in_ok-lines.ensures.quantities, c.in_ok-lines.ensures.sets) at c.check.ensures.rule)).0

pub returns-clause-rule : goal.returns-clause-rule
returns-clause-rule c = (check_answer c.args.self.now c.in_ok-lines.ensures.refusal _ _ _
    (rw (c.in_ok-lines.ensures.rack, c.in_ok-lines.ensures.quantities, c.in_ok-lines.ensures.sets) at c.check.ensures.answer)
    (rw (c.in_ok-lines.ensures.rack, c.in_ok-lines.ensures.quantities, c.in_ok-lines.ensures.sets) at c.check.ensures.rule)).1

full : (c : After-lines) → Full c.args.self.now
full c = record { sets_full = search rules; quantities_full = search rules }

pub returns-in_err-lines-clause-cases : goal.returns-in_err-lines-clause-cases
returns-in_err-lines-clause-cases c =
    check_told c.args.self.now (full (goal.at.returns-in_err-lines-clause-cases c).After-lines) _ _ _ _ (returns-in_err-lines-clause-answer c)

pub returns-clause-cases : goal.returns-clause-cases
returns-clause-cases c =
    check_told c.args.self.now (full (goal.at.returns-clause-cases c).After-lines) _ _ _ _ (returns-clause-answer c)
