-- What the plan with the fewest tip changes along the list answers for a closed board, what it leaves in the plan buffer, and what it means.
use Rattle.std.specs.Prelude.{ℕ, List}
use Rattle.model.specs.Choice.{Mounted}
use Rattle.line_calls.specs.Answers.{AlongAnswer}
use Rattle.line_calls.specs.Along as Lines
use Rattle.board.specs.declared.Board.{Board}
use Rattle.board.specs.Answers.{Along}
use Rattle.board.specs.Board.{lines_of, quantities_of}
use Rattle.board.specs.Sharing.{mounted_refusal}

-- the answer, with the board as it was
abbrev pub walked : Board → AlongAnswer → Along
walked b r = record { board = b; number = r.refusal.number; place = r.refusal.place; changes = r.changes; pairs = r.pairs }

-- the plan of a sound and closed board, where the plan buffer has room bytes
unfoldable pub along_of : Board → Mounted → ℕ → Along
along_of b mounted room = walked b (Lines.along_of (mounted_refusal b mounted) mounted (quantities_of b) (lines_of b) room)

unfoldable pub along_buffer : Board → Mounted → List ℕ → List ℕ
along_buffer b mounted plan = Lines.along_buffer (mounted_refusal b mounted) mounted (lines_of b) plan

-- the rule, of the bytes in the buffer
abbrev pub AlongRule : Board → Mounted → List ℕ → Along → Type 0
AlongRule b mounted buffer r = Lines.AlongRule mounted (quantities_of b) (lines_of b) buffer r.number r.changes r.pairs
