-- Exact sharing of a file that reading accepts is what the board's call answers on the board that reading gives.
use Prim.Native.Nat.{ℕ}
use mathlib.Core.Path.{◌≡◌}
use mathlib.Core.List.{List}
use Rattle.model.specs.Choice.{Mounted}
use Rattle.refusal.specs.Refusal.{none}
use Rattle.call_refusals.specs.Calls.{mounted_refusal}
use Rattle.line_calls.specs.Exact as Lines
use Rattle.board.specs.declared.Board.{Board}
use Rattle.board.specs.Answers.{Exact}
use Rattle.board.specs.Board.{answer}
use Rattle.board.specs.JobFile.{read_of}
use Rattle.board.specs.Exact.{exact_of, exact_buffer, exact_cells}
use Rattle.file_calls.specs.Outcomes.{Outcome}
use Rattle.file_calls.specs.Exact.{exact_outcome, exact_in, exact_plan_in, exact_cells_in}
use Rattle.board_laws.proofs.AsBoard.{on_board}

-- the answer of the board's call, as an outcome
abbrev pub of_exact : Exact → Outcome
of_exact a = record { refusal = record { number = a.number; place = a.place }; first = a.pairs; second = a.tips; third = 0 }

module _ (file : List ℕ) (b : Board) (given : read_of file ≡ answer b none) (mounted : Mounted) (price : ℕ) where
  pub exact_as_board : (room places : ℕ) → exact_in file mounted price room places ≡ of_exact (exact_of b mounted price room places)
  unfolding exact_in exact_of
  exact_as_board room places =
      on_board file b given (λ r m q l. exact_outcome (Lines.exact_of (mounted_refusal r m mounted) m mounted price q l room places))

  pub exact_plan_as_board : (plan : List ℕ) (places : ℕ) → exact_plan_in file mounted price plan places ≡ exact_buffer b mounted price plan places
  unfolding exact_plan_in exact_buffer
  exact_plan_as_board plan places =
      on_board file b given (λ r m q l. Lines.exact_buffer (mounted_refusal r m mounted) m mounted price q l plan places)

  pub exact_cells_as_board : (room : ℕ) (cells : List ℕ) → exact_cells_in file mounted price room cells ≡ exact_cells b mounted price room cells
  unfolding exact_cells_in exact_cells
  exact_cells_as_board room cells =
      on_board file b given (λ r m q l. Lines.exact_cells (mounted_refusal r m mounted) m price q l room cells)
