-- The check of B7 with quantities: each refusal, and what is accepted.
use Rattle.std.specs.Prelude.{◌≡◌, ℕ, List, [], ◌∷◌, refl}
use Rattle.std.specs.Int.Count.{count_leading_zeros, count_trailing_zeros}
use Rattle.model.specs.Count.{count, every}
use Rattle.model.specs.Plan.{has, occ, uses, pairs, choose2}
use Rattle.model.specs.Interval.{low, high, lies, inside, named}
use Rattle.placements.specs.Repeated.{repeated}
use Rattle.refusal.specs.Told.{Refusal}
use Rattle.refusal.specs.Refusal.{none, refuse, or_else}
use Rattle.goal_rules.specs.Check.{is_valid, entry, bounds}
use Rattle.checking.specs.Checking.{claim_refusal, table_ok, check_refusal}

abbrev sets7 : List ℕ
sets7 = 1 ∷ 3 ∷ 6 ∷ 4 ∷ []

abbrev qs7 : List ℕ
qs7 = 2 ∷ 3 ∷ 3 ∷ 2 ∷ []

-- a table whose entry for tip 0 alone is larger than need be; below the diagonal nothing is read
abbrev tab7 : List ℕ
tab7 = 4 ∷ 10 ∷ 20 ∷ 7 ∷ 0 ∷ 10 ∷ 7 ∷ 7 ∷ 1 ∷ []

abbrev of7 : List ℕ → ℕ → List ℕ → Refusal
of7 plan claim tab = check_refusal 3 qs7 sets7 plan claim tab

-- accepted; a foreign tip; a byte that is no tip; a wrong claim; a plan that is not best; an entry below a split
check7 : (of7 (0 ∷ 0 ∷ 2 ∷ 2 ∷ []) 20 tab7 ≡ none)
    × (of7 (0 ∷ 2 ∷ 2 ∷ 2 ∷ []) 20 tab7 ≡ refuse 19)
    × (of7 (64 ∷ 0 ∷ 2 ∷ 2 ∷ []) 20 tab7 ≡ refuse 19)
    × (of7 (0 ∷ 0 ∷ 2 ∷ 2 ∷ []) 19 tab7 ≡ refuse 20)
    × (of7 (0 ∷ 1 ∷ 1 ∷ 2 ∷ []) 17 tab7 ≡ refuse 33)
    × (of7 (0 ∷ 0 ∷ 2 ∷ 2 ∷ []) 20 (1 ∷ 9 ∷ 20 ∷ 0 ∷ 0 ∷ 10 ∷ 0 ∷ 0 ∷ 1 ∷ []) ≡ refuse 33)
unfolding check_refusal claim_refusal table_ok or_else is_valid bounds every entry repeated named occ lies inside low high choose2 has count
    count_leading_zeros count_trailing_zeros pairs uses
check7 = (refl, refl, refl, refl, refl, refl)
