-- Exact sharing of two boards with the same lines, each with its quantity, in any order; and of two such files.
use Rattle.std.specs.Prelude.{ℕ, ◌≤◌, ◌≡◌, List, length, take}
use Rattle.model.specs.Choice.{Mounted}
use Rattle.job.specs.Job.{rack_in, count_in, sets_in}
use Rattle.subset_rules.specs.Table.{table_places}
use Rattle.line_calls.specs.Exact.{count_named}
use Rattle.board.specs.declared.Board.{Board}
use Rattle.board.specs.Board.{lines_of}
use Rattle.board.specs.Exact.{exact_of, exact_buffer, exact_cells}
use Rattle.file_calls.specs.Exact.{exact_in, exact_plan_in, exact_cells_in}
use Rattle.any_order_rules.specs.Boards.{AlikeBySet}
use Rattle.any_order_rules.specs.Files.{AlikeInFiles, SameFirst}

-- the places of the table that a board needs
abbrev pub places_of : Board → ℕ
places_of b = table_places (count_named b.rack (lines_of b))

-- a plan buffer with a byte for each line, and a table with the places
pub record RoomFor (b : Board) (plan cells : List ℕ) : Type 0 where
  pub bytes : b.count ≤ length plan
  pub places : places_of b ≤ length cells

-- what the calls on both boards answer and leave in their buffers; plans and tables are handed out where the call is accepted
pub record SameExact (mounted : Mounted) (price : ℕ) (b₁ b₂ : Board) (plan₁ plan₂ cells₁ cells₂ : List ℕ) : Type 0 where
  pub numbers : (exact_of b₁ mounted price (length plan₁) (length cells₁)).number ≡ (exact_of b₂ mounted price (length plan₂) (length cells₂)).number
  pub plan_pairs : (exact_of b₁ mounted price (length plan₁) (length cells₁)).pairs ≡ (exact_of b₂ mounted price (length plan₂) (length cells₂)).pairs
  pub used : (exact_of b₁ mounted price (length plan₁) (length cells₁)).tips ≡ (exact_of b₂ mounted price (length plan₂) (length cells₂)).tips
  pub tips : (exact_of b₁ mounted price (length plan₁) (length cells₁)).number ≡ 0
      → AlikeBySet b₁ b₂ (exact_buffer b₁ mounted price plan₁ (length cells₁)) (exact_buffer b₂ mounted price plan₂ (length cells₂))
  pub tables : (exact_of b₁ mounted price (length plan₁) (length cells₁)).number ≡ 0
      → take (places_of b₁) (exact_cells b₁ mounted price (length plan₁) cells₁)
      ≡ take (places_of b₂) (exact_cells b₂ mounted price (length plan₂) cells₂)

-- the places of the table that a file needs
abbrev pub places_in : List ℕ → ℕ
places_in file = table_places (count_named (rack_in file) (sets_in file))

-- a plan buffer with a byte for each line, and a table with the places
pub record RoomIn (file plan cells : List ℕ) : Type 0 where
  pub bytes : count_in file ≤ length plan
  pub places : places_in file ≤ length cells

-- what the calls on both files give and leave in their buffers; plans and tables are handed out where the call is accepted
pub record SameExactIn (mounted : Mounted) (price : ℕ) (f₁ f₂ plan₁ plan₂ cells₁ cells₂ : List ℕ) : Type 0 where
  pub plan_pairs : SameFirst (exact_in f₁ mounted price (length plan₁) (length cells₁)) (exact_in f₂ mounted price (length plan₂) (length cells₂))
  pub used : (exact_in f₁ mounted price (length plan₁) (length cells₁)).second ≡ (exact_in f₂ mounted price (length plan₂) (length cells₂)).second
  pub tips : (exact_in f₁ mounted price (length plan₁) (length cells₁)).refusal.number ≡ 0
      → AlikeInFiles f₁ f₂ (exact_plan_in f₁ mounted price plan₁ (length cells₁)) (exact_plan_in f₂ mounted price plan₂ (length cells₂))
  pub tables : (exact_in f₁ mounted price (length plan₁) (length cells₁)).refusal.number ≡ 0
      → take (places_in f₁) (exact_cells_in f₁ mounted price (length plan₁) cells₁)
      ≡ take (places_in f₂) (exact_cells_in f₂ mounted price (length plan₂) cells₂)
