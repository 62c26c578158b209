-- The placing order by tips for parts and rules as plain numbers.
use Rattle.std.specs.Prelude.{ℕ, ◌≡◌, cond, List}
use Rattle.model.specs.Choice.{Mounted}
use Rattle.refusal.specs.Told.{Refusal}
use Rattle.refusal.specs.Refusal.{accepts, or_else, told}
use Rattle.order_rules.specs.TipCall.{refusal_by_tips, buffer_by_tips, changes_by_tips, TipsRule}
use Rattle.number_calls.specs.Numbers.{parts_in, rules_in, numbers_refusal}

-- 101, then the refusals for the parts and the rules that the numbers stand for
unfoldable pub refusal_by_tips_in : List ℕ → List ℕ → List ℕ → Mounted → ℕ → Refusal
refusal_by_tips_in parts rules plan mounted room =
    or_else (numbers_refusal parts rules) (refusal_by_tips (parts_in parts) (rules_in rules) plan mounted room)

-- the order buffer then, and the changes told
unfoldable pub buffer_by_tips_in : List ℕ → List ℕ → List ℕ → Mounted → List ℕ → List ℕ
buffer_by_tips_in parts rules plan mounted buffer =
    cond (accepts (numbers_refusal parts rules)) (buffer_by_tips (parts_in parts) (rules_in rules) plan mounted buffer) buffer

unfoldable pub changes_by_tips_in : List ℕ → List ℕ → List ℕ → Mounted → ℕ → ℕ
changes_by_tips_in parts rules plan mounted room =
    told (numbers_refusal parts rules) (changes_by_tips (parts_in parts) (rules_in rules) plan mounted room)

-- what the answer means, for numbers that are four a part and two a rule
abbrev pub TipsRuleIn : List ℕ → List ℕ → List ℕ → Mounted → ℕ → List ℕ → Refusal → ℕ → Type 0
TipsRuleIn parts rules plan mounted room buffer r changed =
    (numbers_refusal parts rules).number ≡ 0 → TipsRule (parts_in parts) (rules_in rules) plan mounted room buffer r changed
