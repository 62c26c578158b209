-- What the call for a placing order answers, and what it leaves in the order buffer.
use Rattle.std.specs.Prelude.{ℕ, ◌≡◌, Bool, true, false, List, [], ltb, length, take}
use Rattle.std.proofs.Math.Option.{Option, none, some}
use Rattle.model.specs.Count.{first_fail}
use Rattle.refusal.specs.Told.{Refusal}
use Rattle.refusal.specs.Refusal.{when, or_else, scan, lent_by}
use Rattle.order_rules.specs.declared.Part.{Part}
use Rattle.order_rules.specs.declared.Rule.{Rule}
use Rattle.order_rules.specs.Order.{Task, Obeys, LexLe}
use Rattle.order_rules.specs.Parts.{window_ok, rule_ok, task_of, placing_order}

-- there is no order
abbrev pub absent : Option (List ℕ) → Bool
absent none = true
absent (some order) = false

-- the order, if there is one
abbrev pub ordered : Option (List ℕ) → List ℕ
ordered none = []
ordered (some order) = order

-- the place of the first part with a bad window; the number of parts where there is none
abbrev pub first_bad : List Part → ℕ
first_bad parts = first_fail (window_ok (length parts)) parts

-- 12 for over 128 parts, else at the first part with a bad window
abbrev pub parts_refusal : List Part → Refusal
parts_refusal parts = or_else (when (ltb 128 (length parts)) 12) (scan (window_ok (length parts)) (λ _. 12) parts)

-- then 13 at the first bad rule, then 14 where the order buffer has not room enough
unfoldable pub given_refusal : List Part → List Rule → ℕ → Refusal
given_refusal parts rules room =
    or_else (parts_refusal parts) (or_else (scan (rule_ok (length parts)) (λ _. 13) rules) (when (ltb room (length parts)) 14))

-- then 29 where no order obeys
unfoldable pub order_refusal : List Part → List Rule → ℕ → Refusal
order_refusal parts rules room = or_else (given_refusal parts rules room) (when (absent (placing_order parts rules)) 29)

-- the order buffer: the order, one byte a position, and the bytes past it as they were
unfoldable pub order_after : List Part → List Rule → List ℕ → List ℕ
order_after parts rules buffer =
    lent_by (order_refusal parts rules (length buffer)) (length parts) (ordered (placing_order parts rules)) buffer

-- 29 is given exactly when no order obeys, past what is refused before a search
pub record NoneObeys (t : Task) (given r : Refusal) : Type 0 where
  pub means : r.number ≡ 29 → (other : List ℕ) → Obeys t other → ⊥
  pub told : given.number ≡ 0 → ((other : List ℕ) → Obeys t other → ⊥) → r.number ≡ 29

-- what is accepted obeys, and is the least of all orders that obey
pub record PlacingRule (parts : List Part) (rules : List Rule) (room : ℕ) (buffer : List ℕ) (r : Refusal) : Type 0 where
  pub obeys : r.number ≡ 0 → Obeys (task_of parts rules) (take (length parts) buffer)
  pub least : r.number ≡ 0 → (other : List ℕ) → Obeys (task_of parts rules) other → LexLe (take (length parts) buffer) other
  pub none : NoneObeys (task_of parts rules) (given_refusal parts rules room) r
