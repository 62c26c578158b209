-- Parts and rules as plain numbers, for a caller who has no records: four numbers a part, two a rule.
use Rattle.std.specs.Prelude.{ℕ, ◌+◌, ◌*◌, ◌/◌, ◌%◌, ◌≡◌, Bool, not, cond, ◌&&◌, List, eqb, length, get_or}
use Rattle.model.specs.Count.{list_of}
use Rattle.refusal.specs.Told.{Refusal}
use Rattle.refusal.specs.Refusal.{accepts, when, or_else}
use Rattle.order_rules.specs.declared.Part.{Part}
use Rattle.order_rules.specs.declared.Rule.{Rule}
use Rattle.order_rules.specs.Call.{order_refusal, order_after, PlacingRule}

-- a flag is set by every number but 0
abbrev pub flag : ℕ → Bool
flag n = not (eqb n 0)

-- part i: its first and its last position, then whether it is fine and whether it is tall
unfoldable pub part_of_numbers : List ℕ → ℕ → Part
part_of_numbers numbers i = record {
  first = get_or numbers (i * 4) 0;
  last = get_or numbers (i * 4 + 1) 0;
  fine = flag (get_or numbers (i * 4 + 2) 0);
  tall = flag (get_or numbers (i * 4 + 3) 0);
}

abbrev pub parts_in : List ℕ → List Part
parts_in numbers = list_of (part_of_numbers numbers) (length numbers / 4)

-- rule i: the part placed earlier, and the part placed later
unfoldable pub rule_in : List ℕ → ℕ → Rule
rule_in numbers i = record { earlier = get_or numbers (i * 2) 0; later = get_or numbers (i * 2 + 1) 0 }

abbrev pub rules_in : List ℕ → List Rule
rules_in numbers = list_of (rule_in numbers) (length numbers / 2)

-- 101 where the numbers are not four a part and two a rule
unfoldable pub numbers_refusal : List ℕ → List ℕ → Refusal
numbers_refusal parts rules = when (not (eqb (length parts % 4) 0 && eqb (length rules % 2) 0)) 101

-- then those of the parts and the rules that the numbers stand for
unfoldable pub order_in : List ℕ → List ℕ → ℕ → Refusal
order_in parts rules room = or_else (numbers_refusal parts rules) (order_refusal (parts_in parts) (rules_in rules) room)

-- and the order buffer then
unfoldable pub order_after_in : List ℕ → List ℕ → List ℕ → List ℕ
order_after_in parts rules buffer = cond (accepts (numbers_refusal parts rules)) (order_after (parts_in parts) (rules_in rules) buffer) buffer

-- what the answer means, for numbers that are four a part and two a rule
abbrev pub PlacingRuleIn : List ℕ → List ℕ → ℕ → List ℕ → Refusal → Type 0
PlacingRuleIn parts rules room buffer r =
    (numbers_refusal parts rules).number ≡ 0 → PlacingRule (parts_in parts) (rules_in rules) room buffer r
