-- Bounds of parts, computed.
use Rattle.std.specs.Prelude.{◌≡◌, refl, false, List, [], ◌∷◌, ℕ}
use Rattle.model.specs.Count.{every, list_of, lowest_at}
use Rattle.order_rules.specs.declared.Part.{Part}
use Rattle.order_rules.specs.declared.Rule.{Rule}
use Rattle.order_rules.specs.Number.{number, lowest}
use Rattle.order_rules.specs.Order.{Task}
use Rattle.order_rules.specs.Least.{due, tight, is_free_part, fits, pick_by, prepend, greedy_by, earliest, relax, settle, lasts_of, best_order}
use Rattle.order_rules.specs.Least.{least_order}
use Rattle.order_rules.specs.Parts.{ruled, by_flags, before, task_of}
use Rattle.windows.specs.Bounds.{solvable, soonest, latest}

abbrev plain : ℕ → ℕ → Part
plain a b = record { first = a; last = b; fine = false; tall = false }

abbrev rule : ℕ → ℕ → Rule
rule a b = record { earlier = a; later = b }

abbrev bounds : Task → List ℕ × List ℕ
bounds t = (list_of (soonest t) t.size, list_of (latest t) t.size)

-- part 0 precedes part 1: it is not last, and part 1 is not first
one_rule : bounds (task_of (plain 0 2 ∷ plain 0 2 ∷ plain 0 2 ∷ []) (rule 0 1 ∷ [])) ≡ (0 ∷ 1 ∷ 0 ∷ [], 1 ∷ 2 ∷ 2 ∷ [])
unfolding solvable soonest latest least_order best_order lasts_of settle earliest relax greedy_by pick_by prepend tight due fits is_free_part
    before by_flags ruled number lowest lowest_at every list_of
one_rule = refl

-- parts 0 and 1 take positions 0 and 1 between them, so part 2, whose window is open, is last
two_tight : bounds (task_of (plain 0 1 ∷ plain 0 1 ∷ plain 0 2 ∷ []) []) ≡ (0 ∷ 0 ∷ 2 ∷ [], 1 ∷ 1 ∷ 2 ∷ [])
unfolding solvable soonest latest least_order best_order lasts_of settle earliest relax greedy_by pick_by prepend tight due fits is_free_part
    before by_flags ruled number lowest lowest_at every list_of
two_tight = refl
