use Rattle.std.specs.Prelude.{Ok}
use mathlib.Core.Path.{ap, ◌∙◌}
use Rattle.board.specs.Told.{common_answered}
use Rattle.board.proofs.Answers.{common_answer}
use Rattle.board.proofs.Stopped.{common_stopped}
use Rattle.refusal.proofs.Laws.{err_of}
use Rattle.std.proofs.Common.{rules}
use Rattle.board.proofs.Sets.{Full}
use Rattle.board.proofs.Board.common_tip.Goals.{After-lines}
use Rattle.board.proofs.CasesTold.{common_told}
use Rattle.board.proofs.Board.common_tip.Goals as goal

pub returns-in_err-lines-clause-answer : goal.returns-in_err-lines-clause-answer
returns-in_err-lines-clause-answer c =
    let x = c.in_err-lines.field-0.0 in
    let e = err_of _ x c.from_residual.ensures in
    ap (common_answered c.args.self.now) e ∙ common_stopped x c.args.self.now c.in_err-lines.ensures.refusal

pub returns-clause-answer : goal.returns-clause-answer
returns-clause-answer c =
    let l = c.in_ok-lines.ensures in
    common_answer c.args.self.now l.refusal (rw (l.rack, l.quantities, l.sets) at c.common.ensures.answer)

full : (c : After-lines) → Full c.args.self.now
full c = record { sets_full = search rules; quantities_full = search rules }

pub returns-in_err-lines-clause-cases : goal.returns-in_err-lines-clause-cases
returns-in_err-lines-clause-cases c =
    common_told c.args.self.now (full (goal.at.returns-in_err-lines-clause-cases c).After-lines) _ (returns-in_err-lines-clause-answer c)

pub returns-clause-cases : goal.returns-clause-cases
returns-clause-cases c =
    common_told c.args.self.now (full (goal.at.returns-clause-cases c).After-lines) (Ok _) (returns-clause-answer c)
