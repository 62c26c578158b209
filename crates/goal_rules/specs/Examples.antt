-- The definitions on small boards: B7 with quantities, and others.
use Rattle.std.specs.Prelude.{ℕ, suc, ◌+◌, ◌-◌, ◌≡◌, refl, true, false, List, [], ◌∷◌}
use Rattle.std.specs.Int.Count.{count_leading_zeros, count_trailing_zeros}
use Rattle.model.specs.Count.{count, every, list_of, largest}
use Rattle.model.specs.Plan.{has, occ, choose2}
use Rattle.model.specs.CommonTip.{set_of}
use Rattle.model.specs.Interval.{low, high, lies, inside, named, most, C, table}
use Rattle.placements.specs.Repeated.{repeated}
use Rattle.goal_rules.specs.Goal.{only, reach, others, goal_tips, strike}
use Rattle.goal_rules.specs.Tables.{outer, Out, always, ended}
use Rattle.goal_rules.specs.Check.{entry, bounds}

-- the different sets of B7, and how many of its lines have each
abbrev sets7 : List ℕ
sets7 = 1 ∷ 3 ∷ 6 ∷ 4 ∷ []

abbrev qs7 : List ℕ
qs7 = 2 ∷ 3 ∷ 3 ∷ 2 ∷ []

abbrev sets4 : List ℕ
sets4 = 6 ∷ 15 ∷ 12 ∷ 3 ∷ []

abbrev qs4 : List ℕ
qs4 = 1 ∷ 2 ∷ 1 ∷ 3 ∷ []

-- with the goal of 19 pairs each line keeps one tip, with that of 17 all
strike7 : (strike 3 qs7 sets7 19 ≡ 1 ∷ 1 ∷ 4 ∷ 4 ∷ []) × (strike 3 qs7 sets7 17 ≡ sets7)
unfolding strike list_of goal_tips set_of only repeated named occ C most lies inside largest low high choose2 has count count_leading_zeros
    count_trailing_zeros
strike7 = (refl, refl)

-- the second line on each of its four tips, by one table and by two: that inside of all lines, and that outside of the others
abbrev by : ℕ → ℕ
by t =
    let chain : ℕ → ℕ → ℕ = λ a j. ended always 4 (C (repeated qs4 sets4)) (others qs4 sets4 1) 2 a (t - a + 1 + j) (t - a) in
    largest (λ a. largest (chain a) (4 - t)) (suc t)

reach4 : list_of (reach 4 (others qs4 sets4 1) 2) 4 ≡ 11 ∷ 15 ∷ 9 ∷ 9 ∷ []
unfolding list_of only repeated named occ C most lies inside largest low high choose2 has count count_leading_zeros count_trailing_zeros
reach4 = refl

by4 : list_of by 4 ≡ 11 ∷ 15 ∷ 9 ∷ 9 ∷ []
unfolding list_of Out outer repeated named occ C most lies inside largest low high choose2 has count count_leading_zeros count_trailing_zeros
by4 = refl

-- a table from elsewhere: its entry for tip 0 alone is larger than need be, and below the diagonal nothing is read
abbrev tab7 : List ℕ
tab7 = 4 ∷ 10 ∷ 20 ∷ 7 ∷ 0 ∷ 10 ∷ 7 ∷ 7 ∷ 1 ∷ []

check7 : (bounds (named sets7) 3 (repeated qs7 sets7) tab7 ≡ true)
    × (bounds (named sets7) 3 (repeated qs7 sets7) (table 3 (repeated qs7 sets7)) ≡ true)
    × (bounds (named sets7) 3 (repeated qs7 sets7) (1 ∷ 9 ∷ 20 ∷ 0 ∷ 0 ∷ 10 ∷ 0 ∷ 0 ∷ 1 ∷ []) ≡ false)
unfolding bounds every entry table list_of repeated named occ C most lies inside largest low high choose2 has count count_leading_zeros
    count_trailing_zeros
check7 = (refl, refl, refl)

-- a hole in the rack: no line names tip 1, and the line for tips 0 and 2 is a run
strike_hole : strike 4 (1 ∷ 1 ∷ 1 ∷ []) (5 ∷ 4 ∷ 12 ∷ []) 3 ≡ 4 ∷ 4 ∷ 4 ∷ []
unfolding strike list_of goal_tips set_of only repeated named occ C most lies inside largest low high choose2 has count count_leading_zeros
    count_trailing_zeros
strike_hole = refl
