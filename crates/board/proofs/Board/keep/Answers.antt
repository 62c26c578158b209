use Rattle.std.proofs.Common.{rules}
use mathlib.Core.Path.{refl, ap, ◌∙◌}
use Rattle.std.specs.Prelude.{pos}
use Rattle.board.specs.Told.{kept_answered}
use Rattle.board.proofs.Sets.{Full}
use Rattle.board.proofs.KeepRule.{keep_ruled, kept-answer}
use Rattle.board.proofs.Stopped.{keep_stopped}
use Rattle.board.proofs.Board.keep.Goals.{After-state}
use Rattle.refusal.proofs.Laws.{err_of}
use Rattle.board.proofs.CasesTold.{keep_told}
use Rattle.board.proofs.Board.keep.Goals as goal

full : (c : After-state) → Full c.args.self.now
full c = record { sets_full = search rules; quantities_full = search rules }

pub returns-in_err-state-clause-answer : goal.returns-in_err-state-clause-answer
returns-in_err-state-clause-answer c =
    let x = c.in_err-state.field-0.0 in
    let e = err_of _ (record { refused = x; margin = pos 0 }) c.from_residual.ensures in
    ap (kept_answered c.args.self.now) e ∙ keep_stopped x c.args.self.now c.in_err-state.ensures _

pub returns-in_err-state-clause-rule : goal.returns-in_err-state-clause-rule
returns-in_err-state-clause-rule c =
    keep_ruled c.args.self.now c.args.k (full (goal.at.returns-in_err-state-clause-rule c).After-state) (returns-in_err-state-clause-answer c)

pub returns-clause-answer : goal.returns-clause-answer
returns-clause-answer c =
    let all = full (goal.at.returns-clause-answer c).After-state in
    kept-answer c.args.self.now _ all c.in_ok-state.ensures refl c.keep.ensures.answer c.keep.ensures.sets

pub returns-clause-rule : goal.returns-clause-rule
returns-clause-rule c =
    keep_ruled c.args.self.now c.args.k (full (goal.at.returns-clause-rule c).After-state) (returns-clause-answer c)

pub returns-in_err-state-clause-cases : goal.returns-in_err-state-clause-cases
returns-in_err-state-clause-cases c =
    keep_told c.args.self.now (full (goal.at.returns-in_err-state-clause-cases c).After-state) _ _ (returns-in_err-state-clause-answer c)

pub returns-clause-cases : goal.returns-clause-cases
returns-clause-cases c =
    keep_told c.args.self.now (full (goal.at.returns-clause-cases c).After-state) _ _ (returns-clause-answer c)
