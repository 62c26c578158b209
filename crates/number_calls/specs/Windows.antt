-- What the call for the windows leaves in its two buffers, for parts and rules as plain numbers.
use Rattle.std.specs.Prelude.{ℕ, ◌≡◌, cond, List}
use Rattle.refusal.specs.Told.{Refusal}
use Rattle.refusal.specs.Refusal.{accepts}
use Rattle.part_windows.specs.Call.{first_after, last_after, WindowsRule}
use Rattle.number_calls.specs.Numbers.{parts_in, rules_in, numbers_refusal}

-- the buffers after the call
unfoldable pub first_after_in : List ℕ → List ℕ → List ℕ → List ℕ → List ℕ
first_after_in parts rules first last =
    cond (accepts (numbers_refusal parts rules)) (first_after (parts_in parts) (rules_in rules) first last) first

unfoldable pub last_after_in : List ℕ → List ℕ → List ℕ → List ℕ → List ℕ
last_after_in parts rules first last =
    cond (accepts (numbers_refusal parts rules)) (last_after (parts_in parts) (rules_in rules) first last) last

-- what the answer means, for numbers that are four a part and two a rule
abbrev pub WindowsRuleIn : List ℕ → List ℕ → ℕ → List ℕ → List ℕ → Refusal → Type 0
WindowsRuleIn parts rules room first last r =
    (numbers_refusal parts rules).number ≡ 0 → WindowsRule (parts_in parts) (rules_in rules) room first last r
