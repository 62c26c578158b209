-- Computed facts that the edits of must-fail make false. The boards of RULES 9 are rows of one list in the crate board.
use Rattle.std.specs.Prelude.{◌≡◌, refl, true, false, [], ◌∷◌, map}
use Rattle.std.specs.Int.Count.{count_leading_zeros, count_trailing_zeros}
use Rattle.model.specs.Count.{count, select, each, every, list_of, largest, lowest_at}
use Rattle.model.specs.Plan.{has, occ, choose2}
use Rattle.model.specs.Choice.{bare, tip, choice, from}
use Rattle.model.specs.Greedy.{busiest, rounds, first, quick_tip, quick_plan}
use Rattle.model.specs.Before.{greatest, lowest_of, highest_of, bits_of, top_before, W_before, margin_before, is_zero, has_all, kept_before}
use Rattle.model.specs.Before.{prune_before, busiest_before, quick_tip_before, quick_before, low_before, high_before, is_run_before, taken_by}
use Rattle.model.specs.Before.{most_before, C_before, pick_before, best_tip_before, best_before, table_before}
use Rattle.model.specs.Interval.{low, high, named, fills, is_run_of, lies, inside, most, C, tip_by, worth, pick_of, best_tip, best_plan}

-- {1}, {2}, {0,1}, {0,2}: each tip is in two lines, and the lowest is taken, not the highest, nor the first line's
lowest_tied : quick_plan bare 3 (2 ∷ 4 ∷ 3 ∷ 5 ∷ []) ≡ 1 ∷ 2 ∷ 0 ∷ 0 ∷ []
unfolding quick_plan quick_tip rounds first busiest choice lowest_at occ has count select list_of
lowest_tied = refl

-- {0} three times, {1,3}, {2,3}: the second round shares tip 3
shared_later : quick_plan bare 4 (1 ∷ 1 ∷ 1 ∷ 10 ∷ 12 ∷ []) ≡ 0 ∷ 0 ∷ 0 ∷ 3 ∷ 3 ∷ []
unfolding quick_plan quick_tip rounds first busiest choice lowest_at occ has count select list_of
shared_later = refl

-- {1,3} is a run if no line has tip 2; {0,3} misses tip 1
holed : map (is_run_of (named (10 ∷ 9 ∷ []))) (10 ∷ 9 ∷ []) ≡ true ∷ false ∷ []
unfolding is_run_of fills every named occ count has low high count_leading_zeros count_trailing_zeros
holed = refl

-- {0}, {2}, {0,1}, {1,2}: two pairs; {0,1} does not lie within the interval of tip 0
two_pairs : C (1 ∷ 4 ∷ 3 ∷ 6 ∷ []) 0 3 ≡ 2
unfolding C most named occ lies inside largest low high choose2 has count count_leading_zeros count_trailing_zeros
two_pairs = refl

-- {1,3}: tip 2, which no line has, is not taken though it is mounted; nor is tip 3, the higher of the tied
unnamed : best_plan (tip 2) 4 (10 ∷ []) ≡ 1 ∷ []
unfolding best_plan best_tip tip_by pick_of worth choice from named occ lowest_at most lies inside largest low high choose2
    has count count_leading_zeros count_trailing_zeros
unnamed = refl

-- the base's own rules give the rows of RULES 9: B1, B4 with B5, and B6
one_before : prune_before 9 (14 ∷ 248 ∷ 511 ∷ 96 ∷ []) 1 ≡ 14 ∷ 104 ∷ 104 ∷ 96 ∷ []
unfolding prune_before kept_before has_all each list_of is_zero margin_before W_before bits_of has occ count greatest top_before
one_before = refl

four_before : (quick_before 3 (2 ∷ 4 ∷ 3 ∷ 5 ∷ []) ≡ 1 ∷ 2 ∷ 0 ∷ 0 ∷ []) × (map is_run_before (3 ∷ 5 ∷ []) ≡ true ∷ false ∷ [])
unfolding quick_before quick_tip_before busiest_before lowest_of highest_of greatest occ has count select list_of is_run_before low_before high_before
four_before = (refl, refl)

six_before : (best_before 3 (1 ∷ 4 ∷ 3 ∷ 6 ∷ []) ≡ 0 ∷ 2 ∷ 0 ∷ 2 ∷ [])
    × (table_before 3 (1 ∷ 4 ∷ 3 ∷ 6 ∷ []) ≡ 0 ∷ 1 ∷ 2 ∷ 0 ∷ 0 ∷ 1 ∷ 0 ∷ 0 ∷ 0 ∷ [])
unfolding best_before best_tip_before pick_before table_before C_before most_before taken_by low_before high_before lowest_of highest_of greatest
    choose2 has count list_of
six_before = (refl, refl)
