-- What the Junior with two holders answers for a closed board, what it leaves in the plan buffer, and what it means.
use Rattle.std.specs.Prelude.{ℕ, List, length}
use Rattle.refusal.specs.Told.{Refusal}
use Rattle.call_refusals.specs.declared.Stage.TheVariants.{Closed}
use Rattle.call_refusals.specs.Junior as Asked
use Rattle.line_calls.specs.Answers.{JuniorAnswer}
use Rattle.line_calls.specs.Junior as Lines
use Rattle.board.specs.declared.Board.{Board}
use Rattle.board.specs.Answers.{Junior}
use Rattle.board.specs.Board.{lines_of, quantities_of, state_refusal}

-- the answer, with the board as it was
abbrev pub planned : Board → JuniorAnswer → Junior
planned b r = record { board = b; number = r.refusal.number; place = r.refusal.place; pairs = r.pairs; u = r.u; v = r.v }

-- the Junior's plan of a sound and closed board, where the plan buffer has room bytes
unfoldable pub junior_of : Board → ℕ → Junior
junior_of b room = planned b (Lines.junior_of (state_refusal Closed b) b.rack (quantities_of b) (lines_of b) room)

unfoldable pub junior_buffer : Board → List ℕ → List ℕ
junior_buffer b plan = Lines.junior_buffer (state_refusal Closed b) b.rack (quantities_of b) (lines_of b) plan

-- what is refused before tips are sought: 21, 27, 28, 23, 24, 1 or 4
abbrev pub asked_before : Board → ℕ → Refusal
asked_before b room = Asked.junior_refusal (state_refusal Closed b) b.rack (length (lines_of b)) room

-- the rule, of the bytes in the buffer
abbrev pub JuniorRule : Board → ℕ → List ℕ → Junior → Type 0
JuniorRule b room buffer r =
    Lines.JuniorRule (asked_before b room).number (quantities_of b) (lines_of b) buffer r.number r.pairs r.u r.v
