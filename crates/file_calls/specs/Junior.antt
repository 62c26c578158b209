-- What the Junior with two holders gives for a job file, and what it means.
use Rattle.std.specs.Prelude.{ℕ, List, length}
use Rattle.call_refusals.specs.Junior.{junior_refusal}
use Rattle.job.specs.Job.{rack_in, sets_in, quantities_in, read_refusal}
use Rattle.line_calls.specs.Answers.{JuniorAnswer}
use Rattle.line_calls.specs.Junior.{junior_of, junior_buffer, JuniorRule}
use Rattle.file_calls.specs.Outcomes.{Outcome}

-- the pairs in the plan, and its tips u and v
abbrev pub junior_outcome : JuniorAnswer → Outcome
junior_outcome a = record { refusal = a.refusal; first = a.pairs; second = a.u; third = a.v }

-- the Junior's plan, with a plan buffer of room bytes
unfoldable pub junior_in : List ℕ → ℕ → Outcome
junior_in file room = junior_outcome (junior_of (read_refusal file) (rack_in file) (quantities_in file) (sets_in file) room)

-- the plan buffer after it
unfoldable pub junior_plan_in : List ℕ → List ℕ → List ℕ
junior_plan_in file plan = junior_buffer (read_refusal file) (rack_in file) (quantities_in file) (sets_in file) plan

-- the rule, of the bytes in the plan buffer of room bytes
abbrev pub JuniorRuleOf : List ℕ → ℕ → List ℕ → Outcome → Type 0
JuniorRuleOf file room plan o =
    let asked = junior_refusal (read_refusal file) (rack_in file) (length (sets_in file)) room in
    JuniorRule asked.number (quantities_in file) (sets_in file) plan o.refusal.number o.first o.second o.third
