-- What exact sharing answers for a closed board, what it leaves in the lent buffers, and what it means.
use Rattle.std.specs.Prelude.{ℕ, List}
use Rattle.model.specs.Choice.{Mounted}
use Rattle.line_calls.specs.Answers.{ExactAnswer}
use Rattle.line_calls.specs.Exact as Lines
use Rattle.board.specs.declared.Board.{Board}
use Rattle.board.specs.Answers.{Exact}
use Rattle.board.specs.Board.{lines_of, quantities_of}
use Rattle.board.specs.Sharing.{mounted_refusal}

-- the answer, with the board as it was
abbrev pub priced : Board → ExactAnswer → Exact
priced b r = record { board = b; number = r.refusal.number; place = r.refusal.place; pairs = r.pairs; tips = r.tips }

-- the plan of a sound and closed board at a price for each tip, where the plan buffer has room bytes and the table has the places
unfoldable pub exact_of : Board → Mounted → ℕ → ℕ → ℕ → Exact
exact_of b mounted price room places =
    priced b (Lines.exact_of (mounted_refusal b mounted) b.rack mounted price (quantities_of b) (lines_of b) room places)

unfoldable pub exact_buffer : Board → Mounted → ℕ → List ℕ → ℕ → List ℕ
exact_buffer b mounted price plan places =
    Lines.exact_buffer (mounted_refusal b mounted) b.rack mounted price (quantities_of b) (lines_of b) plan places

unfoldable pub exact_cells : Board → Mounted → ℕ → ℕ → List ℕ → List ℕ
exact_cells b mounted price room cells =
    Lines.exact_cells (mounted_refusal b mounted) b.rack price (quantities_of b) (lines_of b) room cells

-- the rule, of the bytes in the buffer
abbrev pub ExactRule : Board → ℕ → List ℕ → Exact → Type 0
ExactRule b price buffer r = Lines.ExactRule b.rack price (quantities_of b) (lines_of b) buffer r.number r.pairs r.tips
