-- What the plan with the fewest tip changes along the list gives for a job file, and what it means.
use Rattle.std.specs.Prelude.{ℕ, List}
use Rattle.model.specs.Choice.{Mounted}
use Rattle.job.specs.Job.{sets_in, quantities_in}
use Rattle.line_calls.specs.Answers.{AlongAnswer}
use Rattle.line_calls.specs.Along.{along_of, along_buffer, AlongRule}
use Rattle.file_calls.specs.Outcomes.{Outcome}
use Rattle.file_calls.specs.Calls.{mounted_in}

-- the plan's tip changes and its pairs
abbrev pub along_outcome : AlongAnswer → Outcome
along_outcome a = record { refusal = a.refusal; first = a.changes; second = a.pairs; third = 0 }

-- the plan along the list, with a plan buffer of room bytes
unfoldable pub along_in : List ℕ → Mounted → ℕ → Outcome
along_in file mounted room = along_outcome (along_of (mounted_in file mounted) mounted (quantities_in file) (sets_in file) room)

-- the plan buffer after it
unfoldable pub along_plan_in : List ℕ → Mounted → List ℕ → List ℕ
along_plan_in file mounted plan = along_buffer (mounted_in file mounted) mounted (sets_in file) plan

-- the rule, of the bytes in the plan buffer
abbrev pub AlongRuleOf : List ℕ → Mounted → List ℕ → Outcome → Type 0
AlongRuleOf file mounted plan o = AlongRule mounted (quantities_in file) (sets_in file) plan o.refusal.number o.first o.second
