-- The placing order as it was before height decided: each flag counts alone, a tall part's fine flag too.
use Rattle.std.specs.Prelude.{ℕ, Bool, not, ◌&&◌, ◌||◌, List, length}
use Rattle.std.proofs.Math.Option.{Option}
use Rattle.refusal.specs.Told.{Refusal}
use Rattle.refusal.specs.Refusal.{when, or_else, lent_by}
use Rattle.order_rules.specs.declared.Part.{Part}
use Rattle.order_rules.specs.declared.Rule.{Rule}
use Rattle.order_rules.specs.Order.{Task}
use Rattle.order_rules.specs.Least.{least_order}
use Rattle.order_rules.specs.Parts.{part_at, ruled}
use Rattle.order_rules.specs.Call.{absent, ordered, given_refusal}

-- part x is to be placed earlier than part y by each of their flags
unfoldable pub by_each_flag : Part → Part → Bool
by_each_flag x y = (x.fine && not y.fine) || (not x.tall && y.tall)

abbrev pub task_before : List Part → List Rule → Task
task_before parts rules = record {
  size = length parts;
  first = λ i. (part_at parts i).first;
  last = λ i. (part_at parts i).last;
  before = λ a b. ruled rules a b || by_each_flag (part_at parts a) (part_at parts b);
}

unfoldable pub placing_before : List Part → List Rule → Option (List ℕ)
placing_before parts rules = least_order (task_before parts rules)

-- the refusal and the order buffer, as they were
unfoldable pub refusal_before : List Part → List Rule → ℕ → Refusal
refusal_before parts rules room = or_else (given_refusal parts rules room) (when (absent (placing_before parts rules)) 29)

unfoldable pub buffer_before : List Part → List Rule → List ℕ → List ℕ
buffer_before parts rules buffer =
    lent_by (refusal_before parts rules (length buffer)) (length parts) (ordered (placing_before parts rules)) buffer
