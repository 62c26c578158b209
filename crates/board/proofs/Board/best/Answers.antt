use Rattle.std.proofs.Common.{rules}
use mathlib.Core.Path.{refl, ap, ◌∙◌}
use Rattle.board.specs.Told.{shared_answered}
use Rattle.board.proofs.Answers.{best-answer}
use Rattle.board.proofs.Stopped.{mounted_state, best_stopped, best_same, table_same}
use Rattle.refusal.proofs.Laws.{err_of}
use Rattle.board.proofs.Sets.{Full}
use Rattle.board.proofs.CasesTold.{best_told}
use Rattle.board.proofs.Left.{best_few, best_entries, best_checked}
use Rattle.board.proofs.Board.best.Goals.{After-lines}
use Rattle.board.proofs.Board.best.Goals as goal

pub returns-in_err-lines-clause-answer : goal.returns-in_err-lines-clause-answer
returns-in_err-lines-clause-answer c =
    let x = c.in_err-lines.field-0.0 in
    let e = err_of _ x c.from_residual.ensures in
    ap (shared_answered c.args.self.now) e ∙ best_stopped x c.args.self.now _ (mounted_state x c.args.self.now c.in_err-lines.ensures.refusal _) _ _

pub returns-in_err-lines-clause-plan : goal.returns-in_err-lines-clause-plan
returns-in_err-lines-clause-plan c =
    let x = c.in_err-lines.field-0.0 in
    best_same x c.args.self.now _ (mounted_state x c.args.self.now c.in_err-lines.ensures.refusal _) _ _

pub returns-in_err-lines-clause-table : goal.returns-in_err-lines-clause-table
returns-in_err-lines-clause-table c =
    let x = c.in_err-lines.field-0.0 in
    table_same x c.args.self.now _ (mounted_state x c.args.self.now c.in_err-lines.ensures.refusal _) _ _

pub returns-clause-answer : goal.returns-clause-answer
returns-clause-answer c =
    let p = c.best in
    let l = c.in_ok-lines.ensures in
    (best-answer c.args.self.now _ c.in_ok-lines.ensures.refusal refl _ _
    (rw (l.rack, l.quantities, l.sets) at p.ensures.answer) (rw (l.rack, l.quantities, l.sets) at p.ensures.plan)
    (rw (l.rack, l.quantities, l.sets) at p.ensures.table)).0

pub returns-clause-plan : goal.returns-clause-plan
returns-clause-plan c =
    let p = c.best in
    let l = c.in_ok-lines.ensures in
    (best-answer c.args.self.now _ c.in_ok-lines.ensures.refusal refl _ _
    (rw (l.rack, l.quantities, l.sets) at p.ensures.answer) (rw (l.rack, l.quantities, l.sets) at p.ensures.plan)
    (rw (l.rack, l.quantities, l.sets) at p.ensures.table)).1.0

pub returns-clause-table : goal.returns-clause-table
returns-clause-table c =
    let p = c.best in
    let l = c.in_ok-lines.ensures in
    (best-answer c.args.self.now _ c.in_ok-lines.ensures.refusal refl _ _
    (rw (l.rack, l.quantities, l.sets) at p.ensures.answer) (rw (l.rack, l.quantities, l.sets) at p.ensures.plan)
    (rw (l.rack, l.quantities, l.sets) at p.ensures.table)).1.1

full : (c : After-lines) → Full c.args.self.now
full c = record { sets_full = search rules; quantities_full = search rules }

pub returns-in_err-lines-clause-cases : goal.returns-in_err-lines-clause-cases
returns-in_err-lines-clause-cases c =
    best_told c.args.self.now (full (goal.at.returns-in_err-lines-clause-cases c).After-lines) _ _ _ _ (returns-in_err-lines-clause-answer c)

pub returns-clause-cases : goal.returns-clause-cases
returns-clause-cases c =
    best_told c.args.self.now (full (goal.at.returns-clause-cases c).After-lines) _ _ _ _ (returns-clause-answer c)

pub returns-clause-few : goal.returns-clause-few
returns-clause-few c =
    best_few c.args.self.now (full (goal.at.returns-clause-few c).After-lines) _ c.args.plan.now c.args.table.now (returns-clause-answer c)

pub returns-clause-entries : goal.returns-clause-entries
returns-clause-entries c =
    best_entries c.args.self.now (full (goal.at.returns-clause-entries c).After-lines) _ c.args.plan.now c.args.table.now (returns-clause-answer c)
    (returns-clause-table c)

pub returns-clause-checked : goal.returns-clause-checked
returns-clause-checked c =
    best_checked c.args.self.now (full (goal.at.returns-clause-checked c).After-lines) _ c.args.plan.now c.args.table.now (returns-clause-answer c)
    (returns-clause-table c) (returns-clause-plan c)
