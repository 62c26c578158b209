-- The starred boards of RULES 9 for two boards on one panel: a merge of two boards, or each planned alone, and all that is to come back.
use Rattle.std.specs.Prelude.{ℕ, ◌≡◌, List, [], ◌∷◌, ◌++◌, length, replicate}
use Rattle.model.specs.Choice.{bare}
use Rattle.call_refusals.specs.declared.Stage.TheVariants.{Open, Closed}
use Rattle.board.specs.declared.Board.{Board}
use Rattle.board.specs.Answers.{Merged}
use Rattle.board.specs.Answers.{Alone}
use Rattle.board.specs.Board.{empty_board}
use Rattle.board.specs.Common.{common_of}
use Rattle.board.specs.Sharing.{best_of}
use Rattle.board.specs.Panel.{merge_of, alone_of, alone_buffer}
use Rattle.board.specs.Made.{record_of, made_board, closed_board, counted_board}

-- a merge of two boards
pub record MergeRow : Type 0 where
  pub first : Board
  pub second : Board
  pub result : Merged

-- the definition gives the row
abbrev pub Merges : MergeRow → Type 0
Merges r = merge_of r.first r.second ≡ r.result

-- accepted, and refused: both boards come back as given, and a refused merge's panel is the board of a refused read
abbrev merged_row : Board → Board → Board → MergeRow
merged_row a b p = record { first = a; second = b; result = record { first = a; second = b; panel = p; number = 0; place = 0 } }

abbrev unmerged_row : Board → Board → ℕ → ℕ → MergeRow
unmerged_row a b number place =
    record { first = a; second = b; result = record { first = a; second = b; panel = empty_board 1; number = number; place = place } }

-- two boards planned alone, with a plan buffer, and the buffer after it
pub record AloneRow : Type 0 where
  pub first : Board
  pub second : Board
  pub plan : List ℕ
  pub result : Alone
  pub last : List ℕ

abbrev pub PlansAlone : AloneRow → Type 0
PlansAlone r = (alone_of r.first r.second (length r.plan) ≡ r.result) × (alone_buffer r.first r.second r.plan ≡ r.last)

-- accepted, and refused: then there are no pairs, and the buffer is as it was
abbrev alone_row : Board → Board → List ℕ → ℕ → ℕ → List ℕ → AloneRow
alone_row a b plan pairs others last = record {
  first = a;
  second = b;
  plan = plan;
  result = record { first = a; second = b; number = 0; place = 0; first_pairs = pairs; second_pairs = others };
  last = last;
}

abbrev not_alone_row : Board → Board → List ℕ → ℕ → ℕ → AloneRow
not_alone_row a b plan number place = record {
  first = a;
  second = b;
  plan = plan;
  result = record { first = a; second = b; number = number; place = place; first_pairs = 0; second_pairs = 0 };
  last = plan;
}

-- B66 and B67: the lines of both with their quantities
abbrev twice : Board
twice = counted_board 3 (1 ∷ 2 ∷ []) (1 ∷ 3 ∷ [])

abbrev high : Board
high = closed_board 3 (6 ∷ 4 ∷ [])

abbrev spread : Board
spread = closed_board 3 (3 ∷ 4 ∷ [])

abbrev pub B66_panel : Board
B66_panel = counted_board 3 (1 ∷ 2 ∷ 1 ∷ 1 ∷ []) (1 ∷ 3 ∷ 6 ∷ 4 ∷ [])

abbrev pub B67_panel : Board
B67_panel = counted_board 3 (1 ∷ 2 ∷ 1 ∷ 1 ∷ []) (1 ∷ 3 ∷ 3 ∷ 4 ∷ [])

abbrev pub B66_merge : MergeRow
B66_merge = merged_row twice high B66_panel

abbrev pub B67_merge : MergeRow
B67_merge = merged_row twice spread B67_panel

-- B68: other racks, with lines and without
abbrev pub B68_lines : MergeRow
B68_lines = unmerged_row (closed_board 3 (1 ∷ [])) (closed_board 4 (1 ∷ [])) 17 0

abbrev pub B68_none : MergeRow
B68_none = unmerged_row (closed_board 3 []) (closed_board 64 []) 17 0

-- B69: 512 lines and 2,048 placements: with no line more, with one, and with one of another rack
abbrev full_board : Board
full_board = counted_board 1 (replicate 512 4) (replicate 512 1)

abbrev pub B69_none : MergeRow
B69_none = merged_row full_board (closed_board 1 []) full_board

abbrev pub B69_line : MergeRow
B69_line = unmerged_row full_board (closed_board 1 (1 ∷ [])) 24 0

abbrev pub B69_rack : MergeRow
B69_rack = unmerged_row full_board (closed_board 2 (1 ∷ [])) 17 0

-- B70: 2,040 placements, with the last eight and with one too many
abbrev eight : Board
eight = counted_board 3 (replicate 8 255) (replicate 8 1)

abbrev pub B70_last : MergeRow
B70_last =
    merged_row eight (counted_board 3 (8 ∷ []) (6 ∷ [])) (counted_board 3 (replicate 8 255 ++ (8 ∷ [])) (replicate 8 1 ++ (6 ∷ [])))

abbrev pub B70_over : MergeRow
B70_over = unmerged_row eight (counted_board 3 (9 ∷ []) (6 ∷ [])) 30 0

-- B71: no lines in the first, in the second, and in both
abbrev two : Board
two = closed_board 3 (1 ∷ 6 ∷ [])

abbrev pub B71_first : MergeRow
B71_first = merged_row (closed_board 3 []) two two

abbrev pub B71_second : MergeRow
B71_second = merged_row two (closed_board 3 []) two

abbrev pub B71_both : MergeRow
B71_both = merged_row (closed_board 3 []) (closed_board 3 []) (closed_board 3 [])

-- B72: the states: those of the second board after a good first one, and the first board's before the second's
abbrev wide : Board
wide = made_board 65 Closed 0 []

abbrev unset : Board
unset = made_board 3 Closed 3 (1 ∷ 0 ∷ 2 ∷ [])

abbrev held : Board
held = record_of 3 Closed 1 (1 ∷ []) (1 ∷ 0 ∷ 0 ∷ 1 ∷ [])

abbrev opened : ℕ → Board
opened m = made_board m Open 0 []

abbrev short : Board
short = made_board 3 Closed 2 (1 ∷ 0 ∷ [])

abbrev pub B72_21 : MergeRow
B72_21 = unmerged_row two wide 21 0

abbrev pub B72_27 : MergeRow
B72_27 = unmerged_row two unset 27 1

abbrev pub B72_28 : MergeRow
B72_28 = unmerged_row two held 28 3

abbrev pub B72_23 : MergeRow
B72_23 = unmerged_row two (opened 4) 23 0

abbrev pub B72_open_first : MergeRow
B72_open_first = unmerged_row (opened 3) (made_board 0 Closed 0 []) 23 0

abbrev pub B72_short_first : MergeRow
B72_short_first = unmerged_row short wide 27 1

abbrev pub B72_alone_21 : AloneRow
B72_alone_21 = not_alone_row two wide [] 21 0

abbrev pub B72_alone_27 : AloneRow
B72_alone_27 = not_alone_row two unset [] 27 1

abbrev pub B72_alone_28 : AloneRow
B72_alone_28 = not_alone_row two held [] 28 3

abbrev pub B72_alone_23 : AloneRow
B72_alone_23 = not_alone_row two (opened 4) [] 23 0

abbrev pub B72_alone_open_first : AloneRow
B72_alone_open_first = not_alone_row (opened 3) (made_board 0 Closed 0 []) [] 23 0

abbrev pub B72_alone_short_first : AloneRow
B72_alone_short_first = not_alone_row short wide [] 27 1

-- B73: a buffer with room for the first plan alone, for both, and for two bytes more
abbrev fifth : Board
fifth = closed_board 5 (20 ∷ 16 ∷ [])

abbrev pub B73_short : AloneRow
B73_short = not_alone_row twice fifth (9 ∷ 9 ∷ 9 ∷ []) 4 0

abbrev pub B73_alone : AloneRow
B73_alone = alone_row twice fifth (9 ∷ 9 ∷ 9 ∷ 9 ∷ []) 3 1 (0 ∷ 0 ∷ 4 ∷ 4 ∷ [])

abbrev pub B73_longer : AloneRow
B73_longer = alone_row twice fifth (9 ∷ 9 ∷ 9 ∷ 9 ∷ 9 ∷ 9 ∷ []) 3 1 (0 ∷ 0 ∷ 4 ∷ 4 ∷ 9 ∷ 9 ∷ [])

-- B74: no lines in the first, in the second, and in both
abbrev pair : Board
pair = counted_board 1 (2 ∷ []) (1 ∷ [])

abbrev pub B74_first : AloneRow
B74_first = alone_row (closed_board 3 []) pair (9 ∷ []) 0 1 (0 ∷ [])

abbrev pub B74_second : AloneRow
B74_second = alone_row pair (closed_board 64 []) (9 ∷ []) 1 0 (0 ∷ [])

abbrev pub B74_both : AloneRow
B74_both = alone_row (closed_board 3 []) (closed_board 64 []) (9 ∷ []) 0 0 (9 ∷ [])

abbrev pub B74_no_bytes : AloneRow
B74_no_bytes = alone_row (closed_board 3 []) (closed_board 64 []) [] 0 0 []

abbrev pub merge_rows : List MergeRow
merge_rows =
    B66_merge ∷ B67_merge ∷ B68_lines ∷ B68_none ∷ B69_none ∷ B69_line ∷ B69_rack ∷ B70_last ∷ B70_over ∷ B71_first ∷ B71_second ∷ B71_both
    ∷ B72_21 ∷ B72_27 ∷ B72_28 ∷ B72_23 ∷ B72_open_first ∷ B72_short_first ∷ []

abbrev pub alone_rows : List AloneRow
alone_rows =
    B72_alone_21 ∷ B72_alone_27 ∷ B72_alone_28 ∷ B72_alone_23 ∷ B72_alone_open_first ∷ B72_alone_short_first ∷ B73_short ∷ B73_alone
    ∷ B73_longer ∷ B74_first ∷ B74_second ∷ B74_both ∷ B74_no_bytes ∷ []

-- the off counts and the best pairs of the first board, of the second and of the panel
abbrev offs : Board → Board → Board → List ℕ
offs a b p = (common_of a).off ∷ (common_of b).off ∷ (common_of p).off ∷ []

abbrev bests : Board → Board → Board → List ℕ
bests a b p = (best_of a bare 4 9).pairs ∷ (best_of b bare 4 9).pairs ∷ (best_of p bare 4 9).pairs ∷ []

-- both are the sum in one of the two panels, and more than the sum in the other
pub record Sums : Type 0 where
  pub B66_off : offs twice high B66_panel ≡ 0 ∷ 0 ∷ 2 ∷ []
  pub B66_best : bests twice high B66_panel ≡ 3 ∷ 1 ∷ 4 ∷ []
  pub B67_off : offs twice spread B67_panel ≡ 0 ∷ 1 ∷ 1 ∷ []
  pub B67_best : bests twice spread B67_panel ≡ 3 ∷ 0 ∷ 6 ∷ []
