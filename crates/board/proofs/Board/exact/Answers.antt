use Rattle.std.proofs.Common.{rules}
use mathlib.Core.Path.{refl, ap, ◌∙◌}
use Rattle.board.specs.Told.{exact_answered}
use Rattle.board.proofs.Answers.{exact_answer}
use Rattle.board.proofs.Stopped.{mounted_state, exact_stopped, exact_same, cells_same}
use Rattle.refusal.proofs.Laws.{err_of}
use Rattle.board.proofs.Sets.{Full}
use Rattle.board.proofs.CasesTold.{exact_told}
use Rattle.board.proofs.Left.{exact_holds}
use Rattle.board.proofs.Board.exact.Goals.{After-lines}
use Rattle.board.proofs.Board.exact.Goals as goal

pub returns-in_err-lines-clause-answer : goal.returns-in_err-lines-clause-answer
returns-in_err-lines-clause-answer c =
    let x = c.in_err-lines.field-0.0 in
    let e = err_of _ x c.from_residual.ensures in
    ap (exact_answered c.args.self.now) e
    ∙ exact_stopped x c.args.self.now _ (mounted_state x c.args.self.now c.in_err-lines.ensures.refusal _) _ _ _

pub returns-in_err-lines-clause-buffer : goal.returns-in_err-lines-clause-buffer
returns-in_err-lines-clause-buffer c =
    let x = c.in_err-lines.field-0.0 in
    exact_same x c.args.self.now _ (mounted_state x c.args.self.now c.in_err-lines.ensures.refusal _) _ _ _

pub returns-in_err-lines-clause-table : goal.returns-in_err-lines-clause-table
returns-in_err-lines-clause-table c =
    let x = c.in_err-lines.field-0.0 in
    cells_same x c.args.self.now _ (mounted_state x c.args.self.now c.in_err-lines.ensures.refusal _) _ _ _

pub returns-clause-answer : goal.returns-clause-answer
returns-clause-answer c =
    let q = c.exact in
    let l = c.in_ok-lines.ensures in
    (exact_answer c.args.self.now _ c.in_ok-lines.ensures.refusal refl _ _ _
    (rw (l.rack, l.quantities, l.sets) at q.ensures.answer) (rw (l.rack, l.quantities, l.sets) at q.ensures.plan)
    (rw (l.rack, l.quantities, l.sets) at q.ensures.table)).0

pub returns-clause-buffer : goal.returns-clause-buffer
returns-clause-buffer c =
    let q = c.exact in
    let l = c.in_ok-lines.ensures in
    (exact_answer c.args.self.now _ c.in_ok-lines.ensures.refusal refl _ _ _
    (rw (l.rack, l.quantities, l.sets) at q.ensures.answer) (rw (l.rack, l.quantities, l.sets) at q.ensures.plan)
    (rw (l.rack, l.quantities, l.sets) at q.ensures.table)).1.0

pub returns-clause-table : goal.returns-clause-table
returns-clause-table c =
    let q = c.exact in
    let l = c.in_ok-lines.ensures in
    (exact_answer c.args.self.now _ c.in_ok-lines.ensures.refusal refl _ _ _
    (rw (l.rack, l.quantities, l.sets) at q.ensures.answer) (rw (l.rack, l.quantities, l.sets) at q.ensures.plan)
    (rw (l.rack, l.quantities, l.sets) at q.ensures.table)).1.1

full : (c : After-lines) → Full c.args.self.now
full c = record { sets_full = search rules; quantities_full = search rules }

pub returns-in_err-lines-clause-cases : goal.returns-in_err-lines-clause-cases
returns-in_err-lines-clause-cases c =
    exact_told c.args.self.now (full (goal.at.returns-in_err-lines-clause-cases c).After-lines) _ _ _ _ _ (returns-in_err-lines-clause-answer c)

pub returns-clause-cases : goal.returns-clause-cases
returns-clause-cases c =
    exact_told c.args.self.now (full (goal.at.returns-clause-cases c).After-lines) _ _ _ _ _ (returns-clause-answer c)

pub returns-clause-rule : goal.returns-clause-rule
returns-clause-rule c =
    let all = full (goal.at.returns-clause-rule c).After-lines in
    (exact_holds c.args.self.now all _ _ c.args.plan.now c.args.table.now (returns-clause-answer c) (returns-clause-buffer c)).0

pub returns-clause-few : goal.returns-clause-few
returns-clause-few c =
    let all = full (goal.at.returns-clause-few c).After-lines in
    (exact_holds c.args.self.now all _ _ c.args.plan.now c.args.table.now (returns-clause-answer c) (returns-clause-buffer c)).1
