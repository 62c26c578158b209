-- What exact sharing answers for lines with quantities in a rack of m tips after an earlier refusal, and what it means.
use Rattle.std.specs.Prelude.{ℕ, ◌+◌, ◌*◌, ◌≤◌, ◌≡◌, List, ltb, length, take}
use Rattle.model.specs.Plan.{Valid, pairs}
use Rattle.model.specs.Choice.{Mounted}
use Rattle.model.specs.Interval.{named}
use Rattle.model.specs.Renumber.{rank}
use Rattle.placements.specs.Repeated.{repeated}
use Rattle.refusal.specs.Told.{Refusal}
use Rattle.refusal.specs.Refusal.{or_else, when, told, lent_by}
use Rattle.call_refusals.specs.Calls.{plan_refusal}
use Rattle.subset_rules.specs.Subsets.{tips_used, exact_plan_q}
use Rattle.subset_rules.specs.Exact.{most_named, capped}
use Rattle.subset_rules.specs.Table.{table_places, exact_table}
use Rattle.line_calls.specs.Answers.{ExactAnswer}
use Rattle.line_calls.specs.Rules.{HandedOut}

-- how many tips the lines name
abbrev pub count_named : ℕ → List ℕ → ℕ
count_named m lines = rank (named lines) m

-- a plan buffer of room bytes that is shorter than the lines, then more than 20 named tips, then a table of too few places
unfoldable pub exact_refusal : Refusal → ℕ → List ℕ → ℕ → ℕ → Refusal
exact_refusal earlier m lines room places =
    let r = count_named m lines in
    or_else (plan_refusal earlier (length lines) room) (or_else (when (ltb most_named r) 35) (when (ltb places (table_places r)) 5))

-- the plan's pairs and its tips, with a plan buffer of room bytes and a table of the places; after a refusal both are 0
unfoldable pub exact_of : Refusal → ℕ → Mounted → ℕ → List ℕ → List ℕ → ℕ → ℕ → ExactAnswer
exact_of earlier m mounted price qs lines room places =
    let r = exact_refusal earlier m lines room places in
    let plan = exact_plan_q mounted (capped price) m qs lines in
    record { refusal = r; pairs = told r (pairs (repeated qs plan)); tips = told r (tips_used m plan) }

-- the plan buffer and the table after it
unfoldable pub exact_buffer : Refusal → ℕ → Mounted → ℕ → List ℕ → List ℕ → List ℕ → ℕ → List ℕ
exact_buffer earlier m mounted price qs lines plan places =
    lent_by (exact_refusal earlier m lines (length plan) places) (length lines) (exact_plan_q mounted (capped price) m qs lines) plan

unfoldable pub exact_cells : Refusal → ℕ → ℕ → List ℕ → List ℕ → ℕ → List ℕ → List ℕ
exact_cells earlier m price qs lines room cells =
    lent_by (exact_refusal earlier m lines room (length cells)) (table_places (count_named m lines))
    (exact_table (capped price) m (repeated qs lines)) cells

-- the rule, of the bytes in the buffer: where the number is 0, the plan is handed out with its pairs and its tips, and no other plan has more pairs
-- where each tip used costs the price
pub record ExactRule (m price : ℕ) (qs lines buffer : List ℕ) (number shared used : ℕ) : Type 0 where
  pub plan : number ≡ 0 → HandedOut qs lines buffer shared
  pub tips : number ≡ 0 → tips_used m (take (length lines) buffer) ≡ used
  pub best : number ≡ 0 → (other : List ℕ) → Valid lines other → pairs (repeated qs other) + price * used ≤ shared + price * tips_used m other
