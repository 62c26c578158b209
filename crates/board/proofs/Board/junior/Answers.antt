use Rattle.std.proofs.Common.{rules}
use mathlib.Core.Path.{ap, ◌∙◌}
use Rattle.board.specs.Told.{junior_answered}
use Rattle.board.proofs.JuniorCall.{junior_answer}
use Rattle.board.proofs.Stopped.{junior_stopped, junior_same, junior_rule}
use Rattle.refusal.proofs.Laws.{err_of}
use Rattle.board.proofs.Sets.{Full}
use Rattle.board.proofs.Board.junior.Goals.{After-lines}
use Rattle.board.proofs.CasesTold.{junior_told}
use Rattle.board.proofs.Left.{junior_few}
use Rattle.board.proofs.Board.junior.Goals as goal

pub returns-in_err-lines-clause-answer : goal.returns-in_err-lines-clause-answer
returns-in_err-lines-clause-answer c =
    let x = c.in_err-lines.field-0.0 in
    let e = err_of _ x c.from_residual.ensures in
    ap (junior_answered c.args.self.now) e ∙ junior_stopped x c.args.self.now c.in_err-lines.ensures.refusal _

pub returns-in_err-lines-clause-buffer : goal.returns-in_err-lines-clause-buffer
returns-in_err-lines-clause-buffer c = junior_same c.in_err-lines.field-0.0 c.args.self.now c.in_err-lines.ensures.refusal _

pub returns-in_err-lines-clause-rule : goal.returns-in_err-lines-clause-rule
returns-in_err-lines-clause-rule c =
    let x = c.in_err-lines.field-0.0 in
    let e = err_of _ x c.from_residual.ensures in
    rw e (junior_rule x c.args.self.now c.in_err-lines.ensures.refusal _ _)

pub returns-clause-answer : goal.returns-clause-answer
returns-clause-answer c =
    let j = c.junior in
    let l = c.in_ok-lines.ensures in
    (junior_answer c.args.self.now c.in_ok-lines.ensures.refusal _ j.result (rw (l.rack, l.quantities, l.sets) at j.ensures.answer)
    (rw (l.rack, l.quantities, l.sets) at j.ensures.plan) (rw (l.rack, l.quantities, l.sets) at j.ensures.rule)).0

pub returns-clause-buffer : goal.returns-clause-buffer
returns-clause-buffer c =
    let j = c.junior in
    let l = c.in_ok-lines.ensures in
    (junior_answer c.args.self.now c.in_ok-lines.ensures.refusal _ j.result (rw (l.rack, l.quantities, l.sets) at j.ensures.answer)
    (rw (l.rack, l.quantities, l.sets) at j.ensures.plan) (rw (l.rack, l.quantities, l.sets) at j.ensures.rule)).1.0

pub returns-clause-rule : goal.returns-clause-rule
returns-clause-rule c =
    let j = c.junior in
    let l = c.in_ok-lines.ensures in
    (junior_answer c.args.self.now c.in_ok-lines.ensures.refusal _ j.result (rw (l.rack, l.quantities, l.sets) at j.ensures.answer)
    (rw (l.rack, l.quantities, l.sets) at j.ensures.plan) (rw (l.rack, l.quantities, l.sets) at j.ensures.rule)).1.1

full : (c : After-lines) → Full c.args.self.now
full c = record { sets_full = search rules; quantities_full = search rules }

pub returns-in_err-lines-clause-cases : goal.returns-in_err-lines-clause-cases
returns-in_err-lines-clause-cases c =
    junior_told c.args.self.now (full (goal.at.returns-in_err-lines-clause-cases c).After-lines) _ _ (returns-in_err-lines-clause-answer c)

pub returns-clause-cases : goal.returns-clause-cases
returns-clause-cases c =
    junior_told c.args.self.now (full (goal.at.returns-clause-cases c).After-lines) _ _ (returns-clause-answer c)

pub returns-clause-few : goal.returns-clause-few
returns-clause-few c = junior_few c.args.self.now (full (goal.at.returns-clause-few c).After-lines) c.args.plan.now (returns-clause-answer c)
