use Rattle.std.proofs.Common.{rules}
use mathlib.Core.Path.{refl, ap, ◌∙◌}
use Rattle.board.specs.Told.{along_answered}
use Rattle.board.proofs.Answers.{along_answer}
use Rattle.board.proofs.Stopped.{mounted_state, along_stopped, along_same}
use Rattle.refusal.proofs.Laws.{err_of}
use Rattle.board.proofs.Sets.{Full}
use Rattle.board.proofs.CasesTold.{along_told}
use Rattle.board.proofs.Left.{along_holds}
use Rattle.board.proofs.Board.along.Goals.{After-lines}
use Rattle.board.proofs.Board.along.Goals as goal

pub returns-in_err-lines-clause-answer : goal.returns-in_err-lines-clause-answer
returns-in_err-lines-clause-answer c =
    let x = c.in_err-lines.field-0.0 in
    let e = err_of _ x c.from_residual.ensures in
    ap (along_answered c.args.self.now) e ∙ along_stopped x c.args.self.now _ (mounted_state x c.args.self.now c.in_err-lines.ensures.refusal _) _

pub returns-in_err-lines-clause-buffer : goal.returns-in_err-lines-clause-buffer
returns-in_err-lines-clause-buffer c =
    let x = c.in_err-lines.field-0.0 in
    along_same x c.args.self.now _ (mounted_state x c.args.self.now c.in_err-lines.ensures.refusal _) _

pub returns-clause-answer : goal.returns-clause-answer
returns-clause-answer c =
    let q = c.along in
    let l = c.in_ok-lines.ensures in
    (along_answer c.args.self.now _ c.in_ok-lines.ensures.refusal refl _
    (rw (l.rack, l.quantities, l.sets) at q.ensures.answer) (rw (l.rack, l.sets) at q.ensures.plan)).0

pub returns-clause-buffer : goal.returns-clause-buffer
returns-clause-buffer c =
    let q = c.along in
    let l = c.in_ok-lines.ensures in
    (along_answer c.args.self.now _ c.in_ok-lines.ensures.refusal refl _
    (rw (l.rack, l.quantities, l.sets) at q.ensures.answer) (rw (l.rack, l.sets) at q.ensures.plan)).1

full : (c : After-lines) → Full c.args.self.now
full c = record { sets_full = search rules; quantities_full = search rules }

pub returns-in_err-lines-clause-cases : goal.returns-in_err-lines-clause-cases
returns-in_err-lines-clause-cases c =
    along_told c.args.self.now (full (goal.at.returns-in_err-lines-clause-cases c).After-lines) _ _ _ (returns-in_err-lines-clause-answer c)

pub returns-clause-cases : goal.returns-clause-cases
returns-clause-cases c =
    along_told c.args.self.now (full (goal.at.returns-clause-cases c).After-lines) _ _ _ (returns-clause-answer c)

pub returns-clause-rule : goal.returns-clause-rule
returns-clause-rule c =
    let all = full (goal.at.returns-clause-rule c).After-lines in
    (along_holds c.args.self.now all _ c.args.plan.now (returns-clause-answer c) (returns-clause-buffer c)).0

pub returns-clause-few : goal.returns-clause-few
returns-clause-few c =
    let all = full (goal.at.returns-clause-few c).After-lines in
    (along_holds c.args.self.now all _ c.args.plan.now (returns-clause-answer c) (returns-clause-buffer c)).1
