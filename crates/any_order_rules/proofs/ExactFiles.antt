-- THE SORT DOES NOT SHOW IN EXACT SHARING OF FILES: files with the same lines, each with its quantity, in another order give the same.
use Prim.Native.Nat.{ℕ}
use mathlib.Core.Path.{◌≡◌, sym, ap, ◌∙◌}
use mathlib.Core.List.{List}
use lib.ListN.{length}
use Rattle.model.specs.Choice.{Mounted}
use Rattle.refusal.specs.Refusal.{none}
use Rattle.board.specs.declared.Board.{Board}
use Rattle.board.specs.Board.{answer}
use Rattle.board.specs.Exact.{exact_of}
use Rattle.board.specs.JobFile.{board_in, read_of}
use Rattle.board.proofs.JobFileRule.{lines-in}
use Rattle.board_laws.proofs.ExactAsBoard.{exact_as_board, exact_plan_as_board, exact_cells_as_board}
use Rattle.file_calls.specs.Exact.{exact_in}
use Rattle.any_order_rules.specs.Files.{ReorderedFiles}
use Rattle.any_order_rules.specs.Exact.{RoomIn, SameExact, SameExactIn}
use Rattle.any_order_rules.proofs.ExactBoards.{exact_sort_hidden}
use Rattle.any_order_rules.proofs.Files.{given, boards, in_files}

module _ (f₁ f₂ : List ℕ) (r : ReorderedFiles f₁ f₂) (mounted : Mounted) (price : ℕ) (plan₁ plan₂ cells₁ cells₂ : List ℕ)
    (room₁ : RoomIn f₁ plan₁ cells₁) (room₂ : RoomIn f₂ plan₂ cells₂) where
  abbrev b₁ : Board
  b₁ = board_in f₁

  abbrev b₂ : Board
  b₂ = board_in f₂

  abbrev given₁ : read_of f₁ ≡ answer b₁ none
  given₁ = given f₁ r.read₁

  abbrev given₂ : read_of f₂ ≡ answer b₂ none
  given₂ = given f₂ r.read₂

  same : SameExact mounted price b₁ b₂ plan₁ plan₂ cells₁ cells₂
  same =
      exact_sort_hidden b₁ b₂ (boards f₁ f₂ r) mounted price plan₁ plan₂ cells₁ cells₂
      (record { bytes = room₁.bytes; places = rw (lines-in f₁) room₁.places })
      (record { bytes = room₂.bytes; places = rw (lines-in f₂) room₂.places })

  accepts-board : (exact_in f₁ mounted price (length plan₁) (length cells₁)).refusal.number ≡ 0
      → (exact_of b₁ mounted price (length plan₁) (length cells₁)).number ≡ 0
  accepts-board z = ap (λ o. o.refusal.number) (sym (exact_as_board f₁ b₁ given₁ mounted price (length plan₁) (length cells₁))) ∙ z

  -- THE SORT DOES NOT SHOW
  pub exact_files_hidden : SameExactIn mounted price f₁ f₂ plan₁ plan₂ cells₁ cells₂
  exact_files_hidden =
      let first = exact_as_board f₁ b₁ given₁ mounted price (length plan₁) (length cells₁) in
      let second = exact_as_board f₂ b₂ given₂ mounted price (length plan₂) (length cells₂) in
      record {
        plan_pairs = rw (first, second) (record { number = same.numbers; first = same.plan_pairs });
        used = rw (first, second) same.used;
        tips = λ z.
            rw (
              exact_plan_as_board f₁ b₁ given₁ mounted price plan₁ (length cells₁),
              exact_plan_as_board f₂ b₂ given₂ mounted price plan₂ (length cells₂),
            )
            (in_files f₁ f₂ r _ _ (same.tips (accepts-board z)));
        tables = λ z.
            rw (
              exact_cells_as_board f₁ b₁ given₁ mounted price (length plan₁) cells₁,
              exact_cells_as_board f₂ b₂ given₂ mounted price (length plan₂) cells₂,
            )
            (rw (lines-in f₁, lines-in f₂) at (same.tables (accepts-board z)));
      }
