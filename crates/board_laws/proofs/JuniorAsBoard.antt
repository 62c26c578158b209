-- The Junior on a file that reading accepts answers what the board's call answers on the board that reading gives.
use Prim.Native.Nat.{ℕ}
use mathlib.Core.Path.{◌≡◌}
use mathlib.Core.List.{List}
use Rattle.refusal.specs.Refusal.{none}
use Rattle.line_calls.specs.Junior as Lines
use Rattle.board.specs.declared.Board.{Board}
use Rattle.board.specs.Answers.{Junior}
use Rattle.board.specs.Board.{answer}
use Rattle.board.specs.JobFile.{read_of}
use Rattle.board.specs.Junior.{junior_of, junior_buffer}
use Rattle.file_calls.specs.Outcomes.{Outcome}
use Rattle.file_calls.specs.Junior.{junior_outcome, junior_in, junior_plan_in}
use Rattle.board_laws.proofs.AsBoard.{on_board}

-- the answer of the board's call, as an outcome
abbrev pub of_junior : Junior → Outcome
of_junior a = record { refusal = record { number = a.number; place = a.place }; first = a.pairs; second = a.u; third = a.v }

-- a file that reading accepts: the call answers what the board's call answers on the board that reading gives
module _ (file : List ℕ) (b : Board) (given : read_of file ≡ answer b none) where
  pub junior_as_board : (room : ℕ) → junior_in file room ≡ of_junior (junior_of b room)
  unfolding junior_in junior_of
  junior_as_board room = on_board file b given (λ r m q l. junior_outcome (Lines.junior_of r m q l room))

  pub junior_plan_as_board : (plan : List ℕ) → junior_plan_in file plan ≡ junior_buffer b plan
  unfolding junior_plan_in junior_buffer
  junior_plan_as_board plan = on_board file b given (λ r m q l. Lines.junior_buffer r m q l plan)
