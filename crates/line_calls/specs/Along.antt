-- What the plan with the fewest tip changes along the list answers for lines with quantities after an earlier refusal, and what it means.
use Rattle.std.specs.Prelude.{ℕ, ◌≡◌, List, length, take}
use Rattle.model.specs.Plan.{pairs}
use Rattle.model.specs.Choice.{Mounted}
use Rattle.placements.specs.Repeated.{repeated}
use Rattle.refusal.specs.Told.{Refusal}
use Rattle.refusal.specs.Refusal.{told, lent_by}
use Rattle.call_refusals.specs.Calls.{plan_refusal}
use Rattle.along.specs.Along.{fewest, plan_along, FewestChanges}
use Rattle.line_calls.specs.Answers.{AlongAnswer}

-- the plan's changes and its pairs, with a plan buffer of room bytes; after a refusal both are 0
unfoldable pub along_of : Refusal → Mounted → List ℕ → List ℕ → ℕ → AlongAnswer
along_of earlier mounted qs lines room =
    let r = plan_refusal earlier (length lines) room in
    record { refusal = r; changes = told r (fewest mounted lines); pairs = told r (pairs (repeated qs (plan_along mounted lines))) }

-- the plan buffer after it
unfoldable pub along_buffer : Refusal → Mounted → List ℕ → List ℕ → List ℕ
along_buffer earlier mounted lines plan =
    lent_by (plan_refusal earlier (length lines) (length plan)) (length lines) (plan_along mounted lines) plan

-- the rule, of the bytes in the buffer: where the number is 0, they are a valid plan that has the changes and the pairs reported, and no other valid
-- plan has fewer changes
pub record AlongRule (mounted : Mounted) (qs lines buffer : List ℕ) (number changed shared : ℕ) : Type 0 where
  pub fewest : number ≡ 0 → FewestChanges mounted lines (take (length lines) buffer) changed
  pub counted : number ≡ 0 → pairs (repeated qs (take (length lines) buffer)) ≡ shared
