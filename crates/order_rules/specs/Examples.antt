-- Placing orders in which a part is placed for what is due after it.
use Rattle.std.specs.Prelude.{◌≡◌, refl, false, [], ◌∷◌, ℕ}
use Rattle.std.proofs.Math.Option.{some}
use Rattle.model.specs.Count.{every, list_of, lowest_at}
use Rattle.order_rules.specs.declared.Part.{Part}
use Rattle.order_rules.specs.declared.Rule.{Rule}
use Rattle.order_rules.specs.Number.{number, lowest}
use Rattle.order_rules.specs.Least.{due, tight, is_free_part, fits, pick_by, prepend, greedy_by, earliest, relax, settle, lasts_of, best_order}
use Rattle.order_rules.specs.Least.{least_order}
use Rattle.order_rules.specs.Parts.{ruled, by_flags, before, placing_order}

-- a part with neither flag, and a rule
abbrev plain : ℕ → ℕ → Part
plain a b = record { first = a; last = b; fine = false; tall = false }

abbrev rule : ℕ → ℕ → Rule
rule a b = record { earlier = a; later = b }

-- parts 2 and 3 are due by position 1, and 2 not before it; part 3 is to precede part 2, which is due by position 1
due_first : (placing_order (plain 0 3 ∷ plain 0 3 ∷ plain 1 1 ∷ plain 0 1 ∷ []) [] ≡ some (3 ∷ 2 ∷ 0 ∷ 1 ∷ []))
    × (placing_order (plain 0 3 ∷ plain 0 3 ∷ plain 0 1 ∷ plain 0 3 ∷ []) (rule 3 2 ∷ []) ≡ some (3 ∷ 2 ∷ 0 ∷ 1 ∷ []))
unfolding placing_order least_order best_order lasts_of settle earliest relax greedy_by pick_by prepend tight due fits is_free_part
    before by_flags ruled number lowest lowest_at every list_of
due_first = (refl, refl)
