-- What exact sharing gives for a job file, and what it means.
use Rattle.std.specs.Prelude.{ℕ, List}
use Rattle.model.specs.Choice.{Mounted}
use Rattle.job.specs.Job.{rack_in, sets_in, quantities_in}
use Rattle.line_calls.specs.Answers.{ExactAnswer}
use Rattle.line_calls.specs.Exact.{exact_of, exact_buffer, exact_cells, ExactRule}
use Rattle.file_calls.specs.Outcomes.{Outcome}
use Rattle.file_calls.specs.Calls.{mounted_in}

-- the plan's pairs and its tips
abbrev pub exact_outcome : ExactAnswer → Outcome
exact_outcome a = record { refusal = a.refusal; first = a.pairs; second = a.tips; third = 0 }

-- the plan at a price for each tip, with a plan buffer of room bytes and a table of the places
unfoldable pub exact_in : List ℕ → Mounted → ℕ → ℕ → ℕ → Outcome
exact_in file mounted price room places =
    exact_outcome (exact_of (mounted_in file mounted) (rack_in file) mounted price (quantities_in file) (sets_in file) room places)

-- the plan buffer and the table after it
unfoldable pub exact_plan_in : List ℕ → Mounted → ℕ → List ℕ → ℕ → List ℕ
exact_plan_in file mounted price plan places =
    exact_buffer (mounted_in file mounted) (rack_in file) mounted price (quantities_in file) (sets_in file) plan places

unfoldable pub exact_cells_in : List ℕ → Mounted → ℕ → ℕ → List ℕ → List ℕ
exact_cells_in file mounted price room cells =
    exact_cells (mounted_in file mounted) (rack_in file) price (quantities_in file) (sets_in file) room cells

-- the rule, of the bytes in the plan buffer
abbrev pub ExactRuleOf : List ℕ → ℕ → List ℕ → Outcome → Type 0
ExactRuleOf file price plan o = ExactRule (rack_in file) price (quantities_in file) (sets_in file) plan o.refusal.number o.first o.second
