-- Plans and tables, computed: of a board that has no runs at several prices, and of one with a tip that no line names.
use Rattle.std.specs.Prelude.{ℕ, ◌≡◌, refl, List, [], ◌∷◌}
use Rattle.model.specs.Count.{count, every, list_of, largest, lowest_at}
use Rattle.model.specs.Plan.{has, occ, uses, pairs, choose2}
use Rattle.model.specs.CommonTip.{covers, set_of}
use Rattle.model.specs.Choice.{bare, tip, choice}
use Rattle.model.specs.Greedy.{first}
use Rattle.model.specs.Interval.{named}
use Rattle.model.specs.Renumber.{names, rank}
use Rattle.placements.specs.Repeated.{repeated}
use Rattle.subset_rules.specs.Subsets.{tips_used, lying, gain, score_by, score, worth, pick, order, exact_tip, exact_plan_q}
use Rattle.subset_rules.specs.Table.{tips_at, exact_table}

-- {0,1,3}, {0,1,2,3}, {1}, {2,3} and {0,2}
abbrev sets : List ℕ
sets = 11 ∷ 15 ∷ 2 ∷ 12 ∷ 5 ∷ []

abbrev qs : List ℕ
qs = 3 ∷ 1 ∷ 1 ∷ 1 ∷ 2 ∷ []

-- without a price 15 pairs on three tips; from a price of 3 on 13 pairs on two tips
prices : (exact_plan_q bare 0 4 qs sets ≡ 0 ∷ 0 ∷ 1 ∷ 2 ∷ 0 ∷ []) × (exact_plan_q bare 2 4 qs sets ≡ 0 ∷ 0 ∷ 1 ∷ 2 ∷ 0 ∷ [])
    × (exact_plan_q bare 3 4 qs sets ≡ 1 ∷ 1 ∷ 1 ∷ 2 ∷ 2 ∷ [])
    × (exact_plan_q (tip 3) 0 4 qs sets ≡ 0 ∷ 0 ∷ 1 ∷ 3 ∷ 0 ∷ [])
unfolding exact_plan_q exact_tip order pick worth score score_by gain lying choice lowest_at largest covers every count has choose2
    names first repeated
prices = (refl, refl, refl, refl)

-- their pairs, their tips, and the scores: the pairs, and the price of each tip of four that is not used
scores : (score 0 (lying 4 (repeated qs sets)) 4 15 ≡ 15) × (score 3 (lying 4 (repeated qs sets)) 4 15 ≡ 19)
    × (pairs (repeated qs (exact_plan_q bare 3 4 qs sets)) ≡ 13)
    × (tips_used 4 (exact_plan_q bare 3 4 qs sets) ≡ 2)
unfolding exact_plan_q exact_tip order pick worth score score_by gain lying choice lowest_at largest covers every count has choose2
    names first repeated pairs uses tips_used rank
scores = (refl, refl, refl, refl)

-- {0} and {0,2}: no line names tip 1, so that bit 1 of a place stands for tip 2; without a price, and at a price of 2 for each tip
tables : (exact_table 0 3 (1 ∷ 5 ∷ []) ≡ 0 ∷ 1 ∷ 0 ∷ 2 ∷ 0 ∷ 0 ∷ 0 ∷ 1 ∷ []) × (exact_table 2 3 (1 ∷ 5 ∷ []) ≡ 0 ∷ 1 ∷ 0 ∷ 2 ∷ 0 ∷ 0 ∷ 2 ∷ 3 ∷ [])
unfolding exact_table tips_at list_of set_of named occ rank score score_by gain lying largest covers every count has choose2
tables = (refl, refl)
