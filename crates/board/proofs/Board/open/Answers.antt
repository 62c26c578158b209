use Rattle.std.specs.Prelude.{Ok, Err}
use mathlib.Core.Path.{refl, sym, ◌∙◌}
use Rattle.board.specs.Board.{open_of}
use Rattle.board.proofs.CasesTold.{open_told}
use Rattle.model.proofs.Tests.{T_true}
use Rattle.board.proofs.StaysSound.{empty_sound}
use Rattle.board.proofs.Board.open.Goals as goal

pub returns-then-not-rack_ok-clause-answer : goal.returns-then-not-rack_ok-clause-answer
unfolding open_of
returns-then-not-rack_ok-clause-answer c = rw (c.at.ensures, sym c.rack_ok.ensures ∙ c.if-not-rack_ok.true) refl

pub returns-clause-answer : goal.returns-clause-answer
unfolding open_of
returns-clause-answer c = rw (c.empty.ensures, sym c.rack_ok.ensures ∙ c.if-not-rack_ok.false) refl

pub returns-then-not-rack_ok-clause-cases : goal.returns-then-not-rack_ok-clause-cases
returns-then-not-rack_ok-clause-cases c =
    open_told c.args.rack (Err _) (returns-then-not-rack_ok-clause-answer c)

pub returns-clause-cases : goal.returns-clause-cases
returns-clause-cases c =
    open_told c.args.rack (Ok _) (returns-clause-answer c)

pub returns-clause-sound : goal.returns-clause-sound
returns-clause-sound c = rw c.empty.ensures (empty_sound c.args.rack (T_true (sym c.rack_ok.ensures ∙ c.if-not-rack_ok.false)))
