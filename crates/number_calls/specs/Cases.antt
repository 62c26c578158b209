-- The cases of the placing orders of plain numbers, and of the windows.
use Rattle.std.specs.Prelude.{ℕ, ◌%◌, ◌≡◌, ◌⊎◌, List, [], ◌∷◌, ◌++◌, length}
use Rattle.model.specs.Choice.{Mounted}
use Rattle.refusal.specs.declared.Reason.TheVariants.{BrokenRecord}
use Rattle.cases.specs.Cases.{Case, plain}
use Rattle.order_cases.specs.Cases.{order_cases, tip_order_cases}
use Rattle.number_calls.specs.Numbers.{parts_in, rules_in}

-- 101: the numbers are not four a part and two a rule
abbrev pub broken_cases : List ℕ → List ℕ → List Case
broken_cases parts rules = plain BrokenRecord ((length parts % 4 ≡ 0 → ⊥) ⊎ (length rules % 2 ≡ 0 → ⊥)) ∷ []

-- 101, then the cases of the parts and the rules that the numbers stand for
abbrev pub numbers_cases : List ℕ → List ℕ → ℕ → List Case
numbers_cases parts rules room = broken_cases parts rules ++ order_cases (parts_in parts) (rules_in rules) room

-- and so by tips
abbrev pub numbers_by_tips_cases : List ℕ → List ℕ → List ℕ → Mounted → ℕ → List Case
numbers_by_tips_cases parts rules plan mounted room =
    broken_cases parts rules ++ tip_order_cases (parts_in parts) (rules_in rules) plan mounted room
