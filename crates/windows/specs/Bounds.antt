-- The first and the last position that a part has in any order that obeys: bounds consistency of ALLDIFFPREC.
use Rattle.std.specs.Prelude.{ℕ, ◌-◌, ◌≤◌, ◌<◌, min, max, ◌≡◌, Bool, not, cond, List, eqb, get_or}
use Rattle.order_rules.specs.Number.{lowest}
use Rattle.order_rules.specs.Order.{Task, Obeys}
use Rattle.order_rules.specs.Least.{least_order}
use Rattle.order_rules.specs.Call.{absent}

-- some order obeys
unfoldable pub solvable : Task → Bool
solvable t = not (absent (least_order t))

-- the task with part i at position p or earlier
abbrev pub due_by : Task → ℕ → ℕ → Task
due_by t i p = record {
  size = t.size;
  first = t.first;
  last = λ j. cond (eqb i j) (min p (t.last j)) (t.last j);
  before = t.before;
}

-- the task with part i at position p or later
abbrev pub not_before : Task → ℕ → ℕ → Task
not_before t i p = record {
  size = t.size;
  first = λ j. cond (eqb i j) (max p (t.first j)) (t.first j);
  last = t.last;
  before = t.before;
}

-- the first position of part i in any order that obeys; the size where none obeys
unfoldable pub soonest : Task → ℕ → ℕ
soonest t i = lowest (λ p. solvable (due_by t i p)) t.size

-- the last position of part i in any order that obeys; 0 where none obeys
unfoldable pub latest : Task → ℕ → ℕ
latest t i = t.size - 1 - lowest (λ d. solvable (not_before t i (t.size - 1 - d))) t.size

-- the task with each window narrowed to the bounds
abbrev pub bounded : Task → Task
bounded t = record { size = t.size; first = soonest t; last = latest t; before = t.before }

-- some order that obeys has part i at position p
pub record CanStand (t : Task) (i p : ℕ) : Type 0 where
  pub order : List ℕ
  pub obeys : Obeys t order
  pub below : p < t.size
  pub at : get_or order p 0 ≡ i

-- part i can stand first at one position and last at another, and at none before or after
pub record Bounds (t : Task) (i first last : ℕ) : Type 0 where
  pub first_reached : CanStand t i first
  pub last_reached : CanStand t i last
  pub within : (p : ℕ) → CanStand t i p → (first ≤ p) × (p ≤ last)
