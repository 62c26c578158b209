use Rattle.std.specs.Prelude.{Ok}
use mathlib.Core.Path.{ap, ◌∙◌}
use Rattle.board.specs.Told.{answered}
use Rattle.board.proofs.Answers.{close_accepted}
use Rattle.board.proofs.Stopped.{close_stopped}
use Rattle.refusal.proofs.Laws.{err_of}
use Rattle.std.proofs.Common.{rules}
use Rattle.board.proofs.Sets.{Full}
use Rattle.board.proofs.CasesTold.{close_told}
use Rattle.board.proofs.Board.close.Goals.{After-state}
use Rattle.board.proofs.Board.close.Goals as goal

pub returns-in_err-state-clause-answer : goal.returns-in_err-state-clause-answer
returns-in_err-state-clause-answer c =
    let x = c.in_err-state.field-0.0 in
    let e = err_of _ x c.from_residual.ensures in
    ap (answered c.args.self.now) e ∙ close_stopped x c.args.self.now c.in_err-state.ensures

pub returns-clause-answer : goal.returns-clause-answer
returns-clause-answer c = close_accepted c.args.self.now c.in_ok-state.ensures

full : (c : After-state) → Full c.args.self.now
full c = record { sets_full = search rules; quantities_full = search rules }

pub returns-in_err-state-clause-cases : goal.returns-in_err-state-clause-cases
returns-in_err-state-clause-cases c =
    close_told c.args.self.now (full (goal.at.returns-in_err-state-clause-cases c).After-state) _ (returns-in_err-state-clause-answer c)

pub returns-clause-cases : goal.returns-clause-cases
returns-clause-cases c =
    close_told c.args.self.now (full (goal.at.returns-clause-cases c).After-state) (Ok (tt {0})) (returns-clause-answer c)
