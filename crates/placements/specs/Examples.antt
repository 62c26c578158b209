-- Document 01's boards B1 and B7 with quantities.
use Rattle.std.specs.Prelude.{ℕ, ◌-◌, ◌≡◌, refl, replicate, pos}
use mathlib.Core.List.{List, [], ◌∷◌, ◌++◌, zip_with}
use Rattle.std.specs.Int.Count.{count_leading_zeros, count_trailing_zeros}
use Rattle.model.specs.Limits.{most_placements}
use Rattle.model.specs.Count.{count, select, every, largest, lowest_at}
use Rattle.model.specs.Plan.{has, occ, uses, pairs, choose2}
use Rattle.model.specs.CommonTip.{set_of, top, W, margin, covers, narrowed, most_used}
use Rattle.model.specs.Choice.{bare, tip, choice, from}
use Rattle.model.specs.Greedy.{busiest, rounds, first, quick_tip}
use Rattle.model.specs.Interval.{low, high, named, lies, inside, most, C, tip_by, worth, pick_of, best_tip}
use Rattle.placements.specs.Repeated.{total, repeated, weighted}
use Rattle.placements.specs.Totals.{first_over}
use Rattle.placements.specs.Plans.{quick_plan_q, best_plan_q}
use Rattle.placements.specs.Keep.{V, scarce, kept_q, prune_q, off_q}

-- the sets of B1, and a quantity for each
abbrev sets1 : List ℕ
sets1 = 14 ∷ 248 ∷ 511 ∷ 96 ∷ []

abbrev qs1 : List ℕ
qs1 = 1 ∷ 2 ∷ 3 ∷ 2 ∷ []

-- the different sets of B7, and how many of its lines have each
abbrev sets7 : List ℕ
sets7 = 1 ∷ 3 ∷ 6 ∷ 4 ∷ []

abbrev qs7 : List ℕ
qs7 = 2 ∷ 3 ∷ 3 ∷ 2 ∷ []

seven : (repeated qs7 sets7 ≡ 1 ∷ 1 ∷ 3 ∷ 3 ∷ 3 ∷ 6 ∷ 6 ∷ 6 ∷ 4 ∷ 4 ∷ []) × (total qs7 ≡ 10) × (weighted (λ s. has s 1) qs7 sets7 ≡ 6)
unfolding repeated total weighted has
seven = (refl, refl, refl)

-- 7 of 8 placements allow tips 5 and 6
one : (total qs1 - top 9 (repeated qs1 sets1) ≡ 1) × (W 9 (repeated qs1 sets1) ≡ 96) × (margin 9 (repeated qs1 sets1) 2 ≡ pos 1)
unfolding repeated total margin W set_of has occ count largest top
one = (refl, refl, refl)

-- at margin 1 the lines of 2 and of 3 placements keep the tips 3, 5 and 6; at margin 2 that of 3 keeps 3 to 7; at margin 3 nothing changes
kept : (prune_q 9 qs1 sets1 2 ≡ 14 ∷ 104 ∷ 104 ∷ 96 ∷ []) × (prune_q 9 qs1 sets1 3 ≡ 14 ∷ 248 ∷ 248 ∷ 96 ∷ []) × (prune_q 9 qs1 sets1 4 ≡ sets1)
unfolding prune_q zip_with kept_q scarce narrowed covers every V set_of repeated has occ count largest top
kept = (refl, refl, refl)

-- the plan that has line 0 on tip 1 and the others on tip 5 has 1 placement off
off1 : off_q 9 qs1 (1 ∷ 5 ∷ 5 ∷ 5 ∷ []) ≡ 1
unfolding repeated most_used largest uses count
off1 = refl

quick7 : (quick_plan_q bare 3 qs7 sets7 ≡ 0 ∷ 1 ∷ 1 ∷ 2 ∷ []) × (pairs (repeated qs7 (quick_plan_q bare 3 qs7 sets7)) ≡ 17)
unfolding quick_plan_q quick_tip repeated rounds first busiest choice largest lowest_at occ has count select pairs uses
quick7 = (refl, refl)

best7 : (best_plan_q bare 3 qs7 sets7 ≡ 0 ∷ 0 ∷ 2 ∷ 2 ∷ []) × (pairs (repeated qs7 (best_plan_q bare 3 qs7 sets7)) ≡ 20)
    × (C (repeated qs7 sets7) 0 3 ≡ 20)
unfolding best_plan_q best_tip repeated tip_by pick_of worth choice from named occ lowest_at C most lies inside largest low high
    choose2 has count count_leading_zeros count_trailing_zeros pairs uses
best7 = (refl, refl, refl)

-- {0,2} twice and {0} and {2}: no line has tip 1, three placements allow tip 0 and three tip 2; with tip 2 on the head it wins the tie
abbrev sets_h : List ℕ
sets_h = 5 ∷ 1 ∷ 4 ∷ []

abbrev qs_h : List ℕ
qs_h = 2 ∷ 1 ∷ 1 ∷ []

holes : (best_plan_q bare 3 qs_h sets_h ≡ 0 ∷ 0 ∷ 2 ∷ []) × (best_plan_q (tip 2) 3 qs_h sets_h ≡ 2 ∷ 0 ∷ 2 ∷ [])
    × (best_plan_q (tip 1) 3 qs_h sets_h ≡ 0 ∷ 0 ∷ 2 ∷ [])
    × (quick_plan_q (tip 2) 3 qs_h sets_h ≡ 2 ∷ 0 ∷ 2 ∷ [])
unfolding best_plan_q best_tip quick_plan_q quick_tip rounds first busiest select repeated tip_by pick_of worth choice from named occ lowest_at C most
    lies inside largest low high choose2 has count count_leading_zeros count_trailing_zeros
holes = (refl, refl, refl, refl)

-- 255 and 255 and so on: the ninth line passes 2,048; with eight lines of 255 and one of 8 none does
over : (first_over most_placements (replicate 9 255) ≡ 8) × (first_over most_placements (replicate 8 255 ++ (8 ∷ [])) ≡ 9)
unfolding first_over
over = (refl, refl)
