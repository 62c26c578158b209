-- What a caller in C gets of a placing order, and of the windows of its parts.
use Rattle.std.specs.Prelude.{ℕ, ◌/◌, List, length}
use Rattle.refusal.specs.Told.{Refusal}
use Rattle.refusal.specs.Refusal.{told}
use Rattle.model.specs.Choice.{Mounted}
use Rattle.number_calls.specs.Numbers.{order_in}
use Rattle.number_calls.specs.ByTips.{refusal_by_tips_in, changes_by_tips_in}
use Rattle.file_calls.specs.Outcomes.{Outcome}

-- the refusal, and the number of parts where nothing is refused
unfoldable pub order_outcome : Refusal → ℕ → Outcome
order_outcome r count = record { refusal = r; first = told r count; second = 0; third = 0 }

-- for parts and rules as plain numbers, where the shortest buffer has room bytes
unfoldable pub ordered_in : List ℕ → List ℕ → ℕ → Outcome
ordered_in parts rules room = order_outcome (order_in parts rules room) (length parts / 4)

-- by tips, with the number of changes
unfoldable pub by_tips_outcome : Refusal → ℕ → ℕ → Outcome
by_tips_outcome r count changed = record { refusal = r; first = told r count; second = changed; third = 0 }

unfoldable pub ordered_by_tips_in : List ℕ → List ℕ → List ℕ → Mounted → ℕ → Outcome
ordered_by_tips_in parts rules plan mounted room =
    by_tips_outcome (refusal_by_tips_in parts rules plan mounted room) (length parts / 4) (changes_by_tips_in parts rules plan mounted room)
