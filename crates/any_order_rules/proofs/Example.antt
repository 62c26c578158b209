-- Two boards that the law speaks of, the lines of B22 and the same from the last to the first, and two files with them; and a rule that does not
-- hide the order.
use Prim.Native.Nat.{ℕ}
use native.Mathlib.Omega.{arith}
use mathlib.Core.Path.{◌≡◌, refl}
use mathlib.Core.List.{List, [], ◌∷◌, zip, zip_with, reverse_perm}
use lib.Count.{count_trailing_zeros}
use lib.ListN.{get_or}
use Rattle.model.specs.Count.{count, select, each, first_fail, list_of, largest, lowest_at}
use Rattle.model.specs.Plan.{has, occ, in_rack, is_domain, rack_ok}
use Rattle.model.specs.Choice.{tip, choice}
use Rattle.model.specs.Greedy.{busiest, rounds, first, quick_tip}
use Rattle.model.specs.Interval.{low}
use Rattle.placements.specs.Repeated.{total}
use Rattle.placements.specs.Totals.{first_over}
use Rattle.refusal.specs.Refusal.{or_else, scan}
use Rattle.job.specs.Job.{bytes_of, number_of, number_at, line_length, paired, header_of, line_of, bytes_of_lines, file_of, sets_in, quantities_in}
use Rattle.job.specs.Job.{version_ok, start_number, size_number, header_number, line_number, line_numbers, read_refusal}
use Rattle.sound.specs.Sound.{count_ok, sound_board}
use Rattle.board.specs.declared.Board.{Board}
use Rattle.board.specs.Made.{counted_board}
use Rattle.any_order_rules.specs.Order.{SameCounts, Hides}
use Rattle.any_order_rules.specs.Boards.{Reordered, parts_of}
use Rattle.any_order_rules.specs.Files.{ReorderedFiles}

abbrev forward : Board
forward = counted_board 3 (1 ∷ 2 ∷ 1 ∷ 1 ∷ []) (2 ∷ 4 ∷ 3 ∷ 5 ∷ [])

abbrev backward : Board
backward = counted_board 3 (1 ∷ 1 ∷ 2 ∷ 1 ∷ []) (5 ∷ 3 ∷ 4 ∷ 2 ∷ [])

pub turned_round : Reordered backward forward
unfolding sound_board rack_ok count_ok each is_domain in_rack total zip zip_with
turned_round = record {
  own₁ = record { sets_full = refl; quantities_full = refl; is_sound = tt; is_closed = refl };
  own₂ = record { sets_full = refl; quantities_full = refl; is_sound = tt; is_closed = refl };
  racks = refl;
  parts = reverse_perm (parts_of forward);
}

-- the files of both
abbrev forward_file : List ℕ
forward_file = file_of 2 3 (paired (2 ∷ 4 ∷ 3 ∷ 5 ∷ []) (1 ∷ 2 ∷ 1 ∷ 1 ∷ []))

abbrev backward_file : List ℕ
backward_file = file_of 2 3 (paired (5 ∷ 3 ∷ 4 ∷ 2 ∷ []) (1 ∷ 1 ∷ 2 ∷ 1 ∷ []))

pub files_turned_round : ReorderedFiles backward_file forward_file
unfolding read_refusal or_else scan line_numbers line_number header_number start_number size_number version_ok sets_in quantities_in
    number_at number_of file_of header_of bytes_of_lines line_of paired bytes_of line_length first_over rack_ok in_rack list_of first_fail total
    zip zip_with
files_turned_round = record {
  read₁ = refl;
  read₂ = refl;
  racks = refl;
  parts = reverse_perm (zip (sets_in forward_file) (quantities_in forward_file));
}

-- where the lowest tip of the first line wins a tie, the order shows: with lines on tip 0 and tip 1, a line for both goes with the first
pub first-line_shows : Hides (λ lines. quick_tip (tip (low (get_or lines 0 0))) 2 lines 3) → ⊥
unfolding quick_tip rounds first busiest choice largest lowest_at occ has count select low count_trailing_zeros
first-line_shows hides =
    let same : SameCounts (1 ∷ 2 ∷ []) (2 ∷ 1 ∷ []) = λ f. omega arith in
    let e : ◌≡◌ {A = ℕ} 0 1 = hides (1 ∷ 2 ∷ []) (2 ∷ 1 ∷ []) same in
    absurd (omega (arith, e))
