-- The Junior on small boards: its tips and its plan.
use Rattle.std.specs.Prelude.{ℕ, ◌≡◌, refl, true, false, List, [], ◌∷◌}
use Rattle.model.specs.Count.{count, each, lowest_at}
use Rattle.model.specs.Plan.{has, uses, pairs}
use Rattle.placements.specs.Repeated.{repeated}
use Rattle.holder_rules.specs.Holders.{serves, gathered, to_first, two_plan, is_choice, score, chosen, is_served}
use Rattle.holder_rules.specs.Holders.{line_plan, first_tip, second_tip, junior_plan}

abbrev tips : ℕ → List ℕ → List ℕ → List ℕ
tips m qs sets = first_tip m qs sets ∷ second_tip m qs sets ∷ junior_plan m qs sets

-- two tips; one tip that each line has; of more choices with as many pairs the lowest
junior-tips : (tips 4 (1 ∷ 2 ∷ 1 ∷ 2 ∷ []) (3 ∷ 10 ∷ 14 ∷ 13 ∷ []) ≡ 0 ∷ 3 ∷ 0 ∷ 3 ∷ 3 ∷ 3 ∷ [])
    × (tips 4 (2 ∷ 1 ∷ 1 ∷ 2 ∷ []) (13 ∷ 8 ∷ 8 ∷ 11 ∷ []) ≡ 3 ∷ 3 ∷ 3 ∷ 3 ∷ 3 ∷ 3 ∷ [])
    × (tips 4 (2 ∷ 3 ∷ 1 ∷ 3 ∷ []) (1 ∷ 15 ∷ 14 ∷ 7 ∷ []) ≡ 0 ∷ 1 ∷ 0 ∷ 0 ∷ 1 ∷ 0 ∷ [])
unfolding first_tip second_tip junior_plan chosen lowest_at score is_choice serves each two_plan to_first gathered line_plan repeated has count
    pairs uses
junior-tips = (refl, refl, refl)

-- no line; and three lines for which no two tips serve
junior_none : (tips 4 [] [] ≡ 0 ∷ 0 ∷ []) × (is_served 4 [] ≡ true) × (is_served 4 (1 ∷ 2 ∷ 4 ∷ []) ≡ false)
unfolding is_served first_tip second_tip junior_plan chosen lowest_at score is_choice serves each two_plan to_first gathered line_plan repeated
    has count
    pairs uses
junior_none = (refl, refl, refl)

-- equal on both sides: the line that has both goes to u
junior_both : tips 2 (1 ∷ 1 ∷ 1 ∷ []) (1 ∷ 2 ∷ 3 ∷ []) ≡ 0 ∷ 1 ∷ 0 ∷ 1 ∷ 0 ∷ []
unfolding first_tip second_tip junior_plan chosen lowest_at score is_choice serves each two_plan to_first gathered line_plan repeated has count
    pairs uses
junior_both = refl
