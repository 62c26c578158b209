use Rattle.std.proofs.Common.{rules}
use mathlib.Core.Path.{refl, ap, ◌∙◌}
use Rattle.board.specs.Told.{shared_answered}
use Rattle.board.proofs.Answers.{quick_answer}
use Rattle.board.proofs.Stopped.{mounted_state, quick_stopped, quick_same}
use Rattle.refusal.proofs.Laws.{err_of}
use Rattle.board.proofs.Sets.{Full}
use Rattle.board.proofs.CasesTold.{quick_told}
use Rattle.board.proofs.Left.{quick_few}
use Rattle.board.proofs.Board.quick.Goals.{After-lines}
use Rattle.board.proofs.Board.quick.Goals as goal

pub returns-in_err-lines-clause-answer : goal.returns-in_err-lines-clause-answer
returns-in_err-lines-clause-answer c =
    let x = c.in_err-lines.field-0.0 in
    let e = err_of _ x c.from_residual.ensures in
    ap (shared_answered c.args.self.now) e ∙ quick_stopped x c.args.self.now _ (mounted_state x c.args.self.now c.in_err-lines.ensures.refusal _) _

pub returns-in_err-lines-clause-buffer : goal.returns-in_err-lines-clause-buffer
returns-in_err-lines-clause-buffer c =
    let x = c.in_err-lines.field-0.0 in
    quick_same x c.args.self.now _ (mounted_state x c.args.self.now c.in_err-lines.ensures.refusal _) _

pub returns-clause-answer : goal.returns-clause-answer
returns-clause-answer c =
    let q = c.quick in
    let l = c.in_ok-lines.ensures in
    (quick_answer c.args.self.now _ c.in_ok-lines.ensures.refusal refl _
    (rw (l.rack, l.quantities, l.sets) at q.ensures.answer) (rw (l.rack, l.quantities, l.sets) at q.ensures.plan)).0

pub returns-clause-buffer : goal.returns-clause-buffer
returns-clause-buffer c =
    let q = c.quick in
    let l = c.in_ok-lines.ensures in
    (quick_answer c.args.self.now _ c.in_ok-lines.ensures.refusal refl _
    (rw (l.rack, l.quantities, l.sets) at q.ensures.answer) (rw (l.rack, l.quantities, l.sets) at q.ensures.plan)).1

full : (c : After-lines) → Full c.args.self.now
full c = record { sets_full = search rules; quantities_full = search rules }

pub returns-in_err-lines-clause-cases : goal.returns-in_err-lines-clause-cases
returns-in_err-lines-clause-cases c =
    quick_told c.args.self.now (full (goal.at.returns-in_err-lines-clause-cases c).After-lines) _ _ _ (returns-in_err-lines-clause-answer c)

pub returns-clause-cases : goal.returns-clause-cases
returns-clause-cases c =
    quick_told c.args.self.now (full (goal.at.returns-clause-cases c).After-lines) _ _ _ (returns-clause-answer c)

pub returns-clause-few : goal.returns-clause-few
returns-clause-few c = quick_few c.args.self.now (full (goal.at.returns-clause-few c).After-lines) _ _ (returns-clause-answer c)
