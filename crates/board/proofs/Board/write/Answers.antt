use Rattle.std.proofs.Common.{rules}
use mathlib.Core.Path.{ap, ◌∙◌}
use Rattle.board.specs.Told.{written_answered}
use Rattle.board.proofs.Sets.{Full}
use Rattle.board.proofs.JobFileRule.{write_clauses}
use Rattle.board.proofs.Stopped.{write_stopped, write_same}
use Rattle.board.proofs.Board.write.Goals.{After-lines}
use Rattle.refusal.proofs.Laws.{err_of}
use Rattle.board.proofs.CasesTold.{write_told}
use Rattle.board.proofs.Board.write.Goals as goal

full : (c : After-lines) → Full c.args.self.now
full c = record { sets_full = search rules; quantities_full = search rules }

pub returns-in_err-lines-clause-answer : goal.returns-in_err-lines-clause-answer
returns-in_err-lines-clause-answer c =
    let x = c.in_err-lines.field-0.0 in
    let e = err_of _ x c.from_residual.ensures in
    ap (written_answered c.args.self.now) e ∙ write_stopped x c.args.self.now c.in_err-lines.ensures.refusal _

pub returns-in_err-lines-clause-buffer : goal.returns-in_err-lines-clause-buffer
returns-in_err-lines-clause-buffer c = write_same c.in_err-lines.field-0.0 c.args.self.now c.in_err-lines.ensures.refusal _

pub returns-clause-answer : goal.returns-clause-answer
returns-clause-answer c =
    let l = c.in_ok-lines.ensures in
    (write_clauses c.args.self.now _ (full (goal.at.returns-clause-answer c).After-lines) (rw l.quantities at l.bytes) l.refusal
    (rw (l.quantities, l.sets) at c.write.ensures.answer) (rw (l.rack, l.quantities, l.sets) at c.write.ensures.buffer)).0

pub returns-clause-buffer : goal.returns-clause-buffer
returns-clause-buffer c =
    let l = c.in_ok-lines.ensures in
    (write_clauses c.args.self.now _ (full (goal.at.returns-clause-buffer c).After-lines) (rw l.quantities at l.bytes) l.refusal
    (rw (l.quantities, l.sets) at c.write.ensures.answer) (rw (l.rack, l.quantities, l.sets) at c.write.ensures.buffer)).1.0

pub returns-clause-rule : goal.returns-clause-rule
returns-clause-rule c =
    let l = c.in_ok-lines.ensures in
    (write_clauses c.args.self.now _ (full (goal.at.returns-clause-rule c).After-lines) (rw l.quantities at l.bytes) l.refusal
    (rw (l.quantities, l.sets) at c.write.ensures.answer) (rw (l.rack, l.quantities, l.sets) at c.write.ensures.buffer)).1.1

pub returns-in_err-lines-clause-cases : goal.returns-in_err-lines-clause-cases
returns-in_err-lines-clause-cases c =
    write_told c.args.self.now (full (goal.at.returns-in_err-lines-clause-cases c).After-lines) _ _ (returns-in_err-lines-clause-answer c)

pub returns-clause-cases : goal.returns-clause-cases
returns-clause-cases c =
    write_told c.args.self.now (full (goal.at.returns-clause-cases c).After-lines) _ _ (returns-clause-answer c)
