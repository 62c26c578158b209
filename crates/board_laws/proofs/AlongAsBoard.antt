-- The plan along the list of a file that reading accepts is what the board's call answers on the board that reading gives.
use Prim.Native.Nat.{ℕ}
use mathlib.Core.Path.{◌≡◌}
use mathlib.Core.List.{List}
use Rattle.model.specs.Choice.{Mounted}
use Rattle.refusal.specs.Refusal.{none}
use Rattle.call_refusals.specs.Calls.{mounted_refusal}
use Rattle.line_calls.specs.Along as Lines
use Rattle.board.specs.declared.Board.{Board}
use Rattle.board.specs.Answers.{Along}
use Rattle.board.specs.Board.{answer}
use Rattle.board.specs.JobFile.{read_of}
use Rattle.board.specs.Along.{along_of, along_buffer}
use Rattle.file_calls.specs.Outcomes.{Outcome}
use Rattle.file_calls.specs.Along.{along_outcome, along_in, along_plan_in}
use Rattle.board_laws.proofs.AsBoard.{on_board}

-- the answer of the board's call, as an outcome
abbrev pub of_along : Along → Outcome
of_along a = record { refusal = record { number = a.number; place = a.place }; first = a.changes; second = a.pairs; third = 0 }

module _ (file : List ℕ) (b : Board) (given : read_of file ≡ answer b none) (mounted : Mounted) where
  pub along_as_board : (room : ℕ) → along_in file mounted room ≡ of_along (along_of b mounted room)
  unfolding along_in along_of
  along_as_board room = on_board file b given (λ r m q l. along_outcome (Lines.along_of (mounted_refusal r m mounted) mounted q l room))

  pub along_plan_as_board : (plan : List ℕ) → along_plan_in file mounted plan ≡ along_buffer b mounted plan
  unfolding along_plan_in along_buffer
  along_plan_as_board plan = on_board file b given (λ r m q l. Lines.along_buffer (mounted_refusal r m mounted) mounted l plan)
