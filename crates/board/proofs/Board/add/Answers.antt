use Rattle.std.specs.Prelude.{Ok}
use Rattle.std.proofs.Common.{rules}
use mathlib.Core.Path.{refl, ap, ◌∙◌}
use Rattle.refusal.proofs.Laws.{err_of, reason_not_0}
use Rattle.board.specs.Told.{answered}
use Rattle.board.proofs.Sets.{Full}
use Rattle.board.proofs.Answers.{add_refused, add_accepted, add_place}
use Rattle.board.proofs.Stopped.{add_stopped}
use Rattle.board.proofs.Board.add.Goals.{After-state}
use Rattle.board.proofs.CasesTold.{add_told}
use Rattle.board.proofs.StaysSound.{add_stays}
use Rattle.board.proofs.Board.add.Goals as goal

full : (c : After-state) → Full c.args.self.now
full c = record { sets_full = search rules; quantities_full = search rules }

pub returns-in_err-state-clause-answer : goal.returns-in_err-state-clause-answer
returns-in_err-state-clause-answer c =
    let x = c.in_err-state.field-0.0 in
    let e = err_of _ x c.from_residual.ensures in
    ap (answered c.args.self.now) e ∙ add_stopped x c.args.self.now c.in_err-state.ensures _ _

pub returns-in_err-add_refusal-clause-answer : goal.returns-in_err-add_refusal-clause-answer
returns-in_err-add_refusal-clause-answer c =
    let x = c.in_err-add_refusal.field-0.0 in
    let e = err_of _ x c.from_residual-in_err-add_refusal.ensures in
    ap (answered c.args.self.now) e
    ∙ add_refused c.args.self.now c.args.set c.args.quantity (full (goal.at.returns-in_err-add_refusal-clause-answer c).After-state)
    c.in_ok-state.ensures c.in_err-add_refusal.ensures (reason_not_0 x.reason)

pub bounds-self-count : goal.bounds-self-count
bounds-self-count c =
    add_place c.args.self.now c.args.set c.args.quantity (full (goal.at.bounds-self-count c).After-state) c.in_ok-state.ensures
    c.in_ok-add_refusal.ensures refl

pub bounds-self-count-2 : goal.bounds-self-count-2
bounds-self-count-2 c =
    add_place c.args.self.now c.args.set c.args.quantity (full (goal.at.bounds-self-count-2 c).After-state) c.in_ok-state.ensures
    c.in_ok-add_refusal.ensures refl

pub returns-clause-answer : goal.returns-clause-answer
returns-clause-answer c =
    add_accepted c.args.self.now c.args.set c.args.quantity (full (goal.at.returns-clause-answer c).After-state)
    c.in_ok-state.ensures c.in_ok-add_refusal.ensures refl

pub returns-in_err-state-clause-cases : goal.returns-in_err-state-clause-cases
returns-in_err-state-clause-cases c =
    add_told c.args.self.now (full (goal.at.returns-in_err-state-clause-cases c).After-state) _ _ _ (returns-in_err-state-clause-answer c)

pub returns-in_err-add_refusal-clause-cases : goal.returns-in_err-add_refusal-clause-cases
returns-in_err-add_refusal-clause-cases c =
    add_told c.args.self.now (full (goal.at.returns-in_err-add_refusal-clause-cases c).After-state) _ _ _ (returns-in_err-add_refusal-clause-answer c)

pub returns-clause-cases : goal.returns-clause-cases
returns-clause-cases c =
    add_told c.args.self.now (full (goal.at.returns-clause-cases c).After-state) (Ok (tt {0})) _ _ (returns-clause-answer c)

pub returns-clause-sound : goal.returns-clause-sound
returns-clause-sound c =
    add_stays c.args.self.now (full (goal.at.returns-clause-sound c).After-state) c.args.set c.args.quantity (returns-clause-answer c)
