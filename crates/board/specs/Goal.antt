-- What striking the tips that miss a pair goal answers, and what it means.
use Rattle.std.specs.Prelude.{ℕ, ◌≡◌, T}
use Rattle.refusal.specs.Told.{Refusal}
use Rattle.call_refusals.specs.declared.Stage.TheVariants.{Closed}
use Rattle.line_calls.specs.Goal as Lines
use Rattle.board.specs.declared.Board.{Board}
use Rattle.board.specs.Answers.{Answer}
use Rattle.board.specs.Board.{lines_of, quantities_of, sound, state_refusal, answer, with_sets}

-- the board with its lines struck; a refused goal leaves the board as it was
abbrev pub struck_board : Board → ℕ → Board
struck_board b K = with_sets b (Lines.struck_sets (state_refusal Closed b) b.rack (quantities_of b) (lines_of b) K b.sets)

-- a goal of K pairs: 21, 27, 28, 23, then 25 at the first line that is no run, then 34
unfoldable pub goal_of : Board → ℕ → Answer
goal_of b K = answer (struck_board b K) (Lines.goal_of (state_refusal Closed b) b.rack (quantities_of b) (lines_of b) K)

-- what is refused before the goal is looked at: 21, 27, 28, 23 or 25
abbrev pub asked_before : Board → Refusal
asked_before b = Lines.goal_asked (state_refusal Closed b) (lines_of b)

-- a tip stays on a line exactly when some valid plan with at least K placement pairs uses it there, and a board that is not refused before gives 34
-- exactly when no valid plan has K; the board stays sound and closed, and but for its sets as it was
pub record GoalRule (b : Board) (K : ℕ) (r : Answer) : Type 0 where
  pub goal : Lines.GoalRule (asked_before b).number b.rack (quantities_of b) (lines_of b) K (lines_of r.board) r.number
  pub refused_same : (r.number ≡ 0 → ⊥) → r.board ≡ b
  pub stays_sound : r.number ≡ 0 → T (sound r.board)
  pub stays_closed : r.number ≡ 0 → r.board.stage ≡ Closed
  pub same_rack : r.board.rack ≡ b.rack
  pub same_count : r.board.count ≡ b.count
  pub same_quantities : r.board.quantities ≡ b.quantities
