-- Boards and files whose lines are all unbroken runs keep every answer of best sharing, whatever their quantities: refusals, pairs, plan and table
-- are by the base's rules for their placements, where a line that is no unbroken run gives 25, and any tip of an interval may be chosen.
use Prim.Native.Nat.{ℕ}
use mathlib.Core.Path.{◌≡◌, refl, ap}
use mathlib.Core.List.{List}
use lib.Dec.{T}
use Rattle.model.specs.Count.{All}
use Rattle.model.specs.Choice.{bare}
use Rattle.model.specs.Before.{is_run_before}
use Rattle.placements.specs.Repeated.{repeated}
use Rattle.placements.specs.Good.{GoodLines}
use Rattle.refusal.specs.Told.{Refusal}
use Rattle.job.specs.Job.{rack_in, sets_in, quantities_in, read_refusal}
use Rattle.job.proofs.Reading.{read_good}
use Rattle.call_refusals.specs.declared.Stage.TheVariants.{Closed}
use Rattle.call_refusals.specs.Calls.{mounted_refusal}
use Rattle.board.specs.declared.Board.{Board}
use Rattle.board.specs.Board.{lines_of, quantities_of, state_refusal}
use Rattle.board.specs.Sharing.{shared, best_of, best_buffer, best_table}
use Rattle.board.proofs.Sets.{Full, ready}
use Rattle.file_calls.specs.Calls.{plan_outcome, best_in, best_plan_in, best_table_in}
use Rattle.board_laws.specs.Before.{best_lines, best_plan_lines, best_table_lines}
use Rattle.board_laws.proofs.LinesBefore.{best-lines, best-plan-lines, best-table-lines}

-- after the refusals r of the board's state
pub record AsBefore (b : Board) (r : Refusal) (m : ℕ) (qs lines : List ℕ) : Type 0 where
  pub best : (room places : ℕ) → best_of b bare room places ≡ shared b (best_lines r m (repeated qs lines) lines room places)
  pub best-plan : (plan : List ℕ) (places : ℕ)
      → best_buffer b bare plan places ≡ best_plan_lines r m (repeated qs lines) lines plan places
  pub best-table : (room : ℕ) (cells : List ℕ)
      → best_table b bare room cells ≡ best_table_lines r m (repeated qs lines) lines room cells

-- UNBROKEN RUNS KEEP REFUSALS, PAIRS, PLANS AND TABLES
pub unbroken_as_before : (b : Board) → Full b → All (λ s. T (is_run_before s)) (lines_of b)
    → AsBefore b (state_refusal Closed b) b.rack (quantities_of b) (lines_of b)
unfolding best_of best_buffer best_table mounted_refusal
unbroken_as_before b full unbroken =
    let r = state_refusal Closed b in
    let good : r.number ≡ 0 → GoodLines b.rack (quantities_of b) (lines_of b) = λ z. (ready Closed b full refl z).sound.good in
    record {
      best = λ room places. ap (shared b) (best-lines r good unbroken room places);
      best-plan = best-plan-lines r good unbroken;
      best-table = best-table-lines r good unbroken;
    }

-- after the refusal r of reading
pub record FileAsBefore (file : List ℕ) (r : Refusal) (m : ℕ) (qs lines : List ℕ) : Type 0 where
  pub best : (room places : ℕ) → best_in file bare room places ≡ plan_outcome (best_lines r m (repeated qs lines) lines room places)
  pub best-plan : (plan : List ℕ) (places : ℕ)
      → best_plan_in file bare plan places ≡ best_plan_lines r m (repeated qs lines) lines plan places
  pub best-table : (room : ℕ) (cells : List ℕ)
      → best_table_in file bare room cells ≡ best_table_lines r m (repeated qs lines) lines room cells

-- AND SO DO FILES of either version
pub unbroken_files_as_before : (file : List ℕ) → All (λ s. T (is_run_before s)) (sets_in file)
    → FileAsBefore file (read_refusal file) (rack_in file) (quantities_in file) (sets_in file)
unfolding best_in best_plan_in best_table_in mounted_refusal
unbroken_files_as_before file unbroken =
    let r = read_refusal file in
    let good : r.number ≡ 0 → GoodLines (rack_in file) (quantities_in file) (sets_in file) = read_good file in
    record {
      best = λ room places. ap plan_outcome (best-lines r good unbroken room places);
      best-plan = best-plan-lines r good unbroken;
      best-table = best-table-lines r good unbroken;
    }
