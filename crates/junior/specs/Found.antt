-- What the search for the Junior's tips finds, and what it leaves in the plan.
use Rattle.std.specs.Prelude.{ℕ, ◌+◌, ◌≤◌, ◌≡◌, cond, List, length, drop, Option, Some, None}
use Rattle.model.specs.Count.{All}
use Rattle.model.specs.Plan.{pairs}
use Rattle.placements.specs.Repeated.{repeated}
use Rattle.holder_rules.specs.Holders.{to_first, two_plan, is_choice, is_served, first_tip, second_tip, junior_plan}
use Rattle.junior.specs.declared.Tips.{Tips}
use Rattle.junior.specs.declared.Found.{Found}

-- each of the places behind the first n has the eight lowest tips
abbrev pub Padded : ℕ → List ℕ → Type 0
Padded n sets = (n ≤ length sets) × All (λ s. s ≡ 255) (drop n sets)

-- the tips u and v with the pairs of their plan and the side for the lines that have both, where they are a choice
unfoldable pub tips_on : List ℕ → ℕ → ℕ → Option Tips
tips_on lines u v =
    cond (is_choice lines u v)
    (Some (record { found = record { pairs = pairs (two_plan lines u v); u = u; v = v }; first = to_first lines u v }))
    None

-- one more than the pairs; 0 where there is no choice
unfoldable pub score_is : Option Tips → ℕ
score_is None = 0
score_is (Some tips) = 1 + tips.found.pairs

-- the chosen tips, where some tips serve every line
unfoldable pub tips_of : ℕ → List ℕ → List ℕ → Option Tips
tips_of m qs sets = tips_on (repeated qs sets) (first_tip m qs sets) (second_tip m qs sets)

-- the pairs of the plan and its tips, where some tips serve every line
unfoldable pub found_of : ℕ → List ℕ → List ℕ → Option Found
found_of m qs sets =
    cond (is_served m (repeated qs sets))
    (Some (record { pairs = pairs (repeated qs (junior_plan m qs sets)); u = first_tip m qs sets; v = second_tip m qs sets }))
    None

-- the plan, or what was there
unfoldable pub plan_of : ℕ → List ℕ → List ℕ → List ℕ → List ℕ
plan_of m qs sets old = cond (is_served m (repeated qs sets)) (junior_plan m qs sets) old
