-- Two boards with the same lines, each with its quantity, in any order; and what their answers have in common.
use Rattle.std.specs.Prelude.{ℕ, ◌*◌, ◌≤◌, ◌<◌, ◌≡◌, T, length, get_or, take}
use mathlib.Core.List.{List, zip, Perm}
use Rattle.model.specs.Choice.{Mounted}
use Rattle.model.specs.Limits.{most_lines}
use Rattle.call_refusals.specs.declared.Stage.TheVariants.{Closed}
use Rattle.board.specs.declared.Board.{Board}
use Rattle.board.specs.Board.{lines_of, quantities_of, sound}
use Rattle.board.specs.Common.{common_of, keep_of}
use Rattle.board.specs.Sharing.{quick_of, quick_buffer, best_of, best_buffer, best_table}

-- the lines of the board, each set with its quantity
abbrev pub parts_of : Board → List (ℕ × ℕ)
parts_of b = zip (lines_of b) (quantities_of b)

-- sound and closed; a record's arrays have their 512 places
pub record SoundClosed (b : Board) : Type 0 where
  pub sets_full : length b.sets ≡ most_lines
  pub quantities_full : length b.quantities ≡ most_lines
  pub is_sound : T (sound b)
  pub is_closed : b.stage ≡ Closed

-- equal racks, and the lines of the second board are those of the first in another order
pub record Reordered (b₁ b₂ : Board) : Type 0 where
  pub own₁ : SoundClosed b₁
  pub own₂ : SoundClosed b₂
  pub racks : b₁.rack ≡ b₂.rack
  pub parts : Perm (parts_of b₁) (parts_of b₂)

-- a plan buffer with a byte for each line, and a table with m * m places
pub record LongEnough (b : Board) (plan cells : List ℕ) : Type 0 where
  pub bytes : b.count ≤ length plan
  pub places : b.rack * b.rack ≤ length cells

-- wherever a line of the first board and a line of the second have equal sets, us and vs are equal at their places
abbrev pub AlikeBySet : Board → Board → List ℕ → List ℕ → Type 0
AlikeBySet b₁ b₂ us vs =
    (i j : ℕ) → i < b₁.count → j < b₂.count → get_or b₁.sets i 0 ≡ get_or b₂.sets j 0 → get_or us i 0 ≡ get_or vs j 0

-- and wherever their quantities are equal too
abbrev pub AlikeByPart : Board → Board → List ℕ → List ℕ → Type 0
AlikeByPart b₁ b₂ us vs =
    (i j : ℕ) → i < b₁.count → j < b₂.count → get_or b₁.sets i 0 ≡ get_or b₂.sets j 0
    → get_or b₁.quantities i 0 ≡ get_or b₂.quantities j 0 → get_or us i 0 ≡ get_or vs j 0

-- what the calls on both boards answer and leave in their buffers; plans and tables are handed out where the call is accepted
pub record SameAnswers (k : ℕ) (mounted : Mounted) (b₁ b₂ : Board) (plan₁ plan₂ cells₁ cells₂ : List ℕ) : Type 0 where
  pub common_number : (common_of b₁).number ≡ (common_of b₂).number
  pub tops : (common_of b₁).top ≡ (common_of b₂).top
  pub offs : (common_of b₁).off ≡ (common_of b₂).off
  pub tips : (common_of b₁).tips ≡ (common_of b₂).tips
  pub keep_number : (keep_of b₁ k).number ≡ (keep_of b₂ k).number
  pub margins : (keep_of b₁ k).margin ≡ (keep_of b₂ k).margin
  pub kept_sets : AlikeByPart b₁ b₂ (keep_of b₁ k).board.sets (keep_of b₂ k).board.sets
  pub quick_number : (quick_of b₁ mounted (length plan₁)).number ≡ (quick_of b₂ mounted (length plan₂)).number
  pub quick-pairs : (quick_of b₁ mounted (length plan₁)).pairs ≡ (quick_of b₂ mounted (length plan₂)).pairs
  pub quick_tips : (quick_of b₁ mounted (length plan₁)).number ≡ 0 → AlikeBySet b₁ b₂ (quick_buffer b₁ mounted plan₁) (quick_buffer b₂ mounted plan₂)
  pub best_number : (best_of b₁ mounted (length plan₁) (length cells₁)).number ≡ (best_of b₂ mounted (length plan₂) (length cells₂)).number
  pub best-pairs : (best_of b₁ mounted (length plan₁) (length cells₁)).pairs ≡ (best_of b₂ mounted (length plan₂) (length cells₂)).pairs
  pub best_tips : (best_of b₁ mounted (length plan₁) (length cells₁)).number ≡ 0
      → AlikeBySet b₁ b₂ (best_buffer b₁ mounted plan₁ (length cells₁)) (best_buffer b₂ mounted plan₂ (length cells₂))
  pub tables : (best_of b₁ mounted (length plan₁) (length cells₁)).number ≡ 0
      → take (b₁.rack * b₁.rack) (best_table b₁ mounted (length plan₁) cells₁)
      ≡ take (b₂.rack * b₂.rack) (best_table b₂ mounted (length plan₂) cells₂)
