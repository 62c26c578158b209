-- What quick and best sharing answer, what they leave in the lent buffers, and what holds of the plans handed out.
use Rattle.std.specs.Prelude.{ℕ, List}
use Rattle.model.specs.Choice.{Mounted}
use Rattle.refusal.specs.Told.{Refusal}
use Rattle.call_refusals.specs.declared.Stage.TheVariants.{Closed}
use Rattle.call_refusals.specs.Calls
use Rattle.line_calls.specs.Answers.{PlanAnswer}
use Rattle.line_calls.specs.Lines
use Rattle.line_calls.specs.Rules
use Rattle.line_calls.specs.Table
use Rattle.board.specs.declared.Board.{Board}
use Rattle.board.specs.Answers.{Shared}
use Rattle.board.specs.Board.{lines_of, quantities_of, state_refusal}

-- the answer to a plan of the board's lines, with the board as it was
abbrev pub shared : Board → PlanAnswer → Shared
shared b r = record { board = b; number = r.refusal.number; place = r.refusal.place; pairs = r.pairs }

-- what is refused before a plan is: the board's state, then a mounted tip outside its rack
abbrev pub mounted_refusal : Board → Mounted → Refusal
mounted_refusal b mounted = Calls.mounted_refusal (state_refusal Closed b) b.rack mounted

-- quick sharing of a sound and closed board, where the plan buffer has room bytes
unfoldable pub quick_of : Board → Mounted → ℕ → Shared
quick_of b mounted room = shared b (Lines.quick_of (mounted_refusal b mounted) b.rack mounted (quantities_of b) (lines_of b) room)

unfoldable pub quick_buffer : Board → Mounted → List ℕ → List ℕ
quick_buffer b mounted plan = Lines.quick_buffer (mounted_refusal b mounted) b.rack mounted (quantities_of b) (lines_of b) plan

-- best sharing, where the plan buffer has room bytes and the table has the places
unfoldable pub best_of : Board → Mounted → ℕ → ℕ → Shared
best_of b mounted room places = shared b (Lines.best_of (mounted_refusal b mounted) b.rack (quantities_of b) (lines_of b) room places)

unfoldable pub best_buffer : Board → Mounted → List ℕ → ℕ → List ℕ
best_buffer b mounted plan places = Lines.best_buffer (mounted_refusal b mounted) b.rack mounted (quantities_of b) (lines_of b) plan places

unfoldable pub best_table : Board → Mounted → ℕ → List ℕ → List ℕ
best_table b mounted room cells = Lines.best_table (mounted_refusal b mounted) b.rack (quantities_of b) (lines_of b) room cells

-- demand 3, of the bytes in the buffer
abbrev pub HalfRule : Board → List ℕ → Shared → Type 0
HalfRule b buffer r = Rules.HalfRule (quantities_of b) (lines_of b) buffer r.number r.pairs

abbrev pub BestRule : Board → List ℕ → Shared → Type 0
BestRule b buffer r = Rules.BestRule (quantities_of b) (lines_of b) buffer r.number r.pairs

-- the table, of the numbers in the places lent
abbrev pub TableRule : Board → List ℕ → Shared → Type 0
TableRule b table r = Table.TableRule b.rack (quantities_of b) (lines_of b) table r.number
