-- What each call answers for lines with quantities in a rack of m tips after an earlier refusal, and what it leaves in the lent buffers.
use Rattle.std.specs.Prelude.{ℕ, ◌*◌, ◌-◌, cond, List, pos, length, take}
use Rattle.model.specs.Plan.{pairs}
use Rattle.model.specs.Choice.{Mounted}
use Rattle.model.specs.CommonTip.{top, W, margin}
use Rattle.model.specs.Interval.{C, table}
use Rattle.placements.specs.Repeated.{total, repeated}
use Rattle.placements.specs.Plans.{quick_plan_q, best_plan_q}
use Rattle.placements.specs.Keep.{prune_q}
use Rattle.refusal.specs.Told.{Refusal}
use Rattle.refusal.specs.Refusal.{accepts, or_else, told, lent_by}
use Rattle.call_refusals.specs.Calls.{keep_refusal, plan_refusal, best_refusal, write_refusal}
use Rattle.checking.specs.Checking.{check_refusal}
use Rattle.job.specs.Job.{file_length, version_for, written_of}
use Rattle.line_calls.specs.Answers.{CommonAnswer}
use Rattle.line_calls.specs.Answers.{KeepAnswer}
use Rattle.line_calls.specs.Answers.{PlanAnswer}
use Rattle.line_calls.specs.Answers.{FileAnswer}

-- common tip: top, the least number of placements off the common tip, and W; after a refusal 0 and no tip
unfoldable pub common_of : Refusal → ℕ → List ℕ → List ℕ → CommonAnswer
common_of earlier m qs lines =
    let most = top m (repeated qs lines) in
    record { refusal = earlier; top = told earlier most; off = told earlier (total qs - most); tips = told earlier (W m (repeated qs lines)) }

-- keep within k placements: 26 carries its margin; after an earlier refusal it is 0
unfoldable pub keep_of : Refusal → ℕ → List ℕ → List ℕ → ℕ → KeepAnswer
keep_of earlier m qs lines k =
    let z = margin m (repeated qs lines) k in
    record { refusal = keep_refusal earlier z; margin = cond (accepts earlier) z (pos 0) }

-- the sets after it: the lines pruned, the others as they were
unfoldable pub sets_kept : Refusal → ℕ → List ℕ → List ℕ → ℕ → List ℕ → List ℕ
sets_kept earlier m qs lines k sets = lent_by (keep_refusal earlier (margin m (repeated qs lines) k)) (length lines) (prune_q m qs lines k) sets

-- an answer with pairs; after a refusal there are 0
abbrev pub plan_answer : Refusal → ℕ → PlanAnswer
plan_answer r shared = record { refusal = r; pairs = told r shared }

-- quick sharing, with a plan buffer of room bytes
unfoldable pub quick_of : Refusal → ℕ → Mounted → List ℕ → List ℕ → ℕ → PlanAnswer
quick_of earlier m mounted qs lines room =
    plan_answer (plan_refusal earlier (length lines) room) (pairs (repeated qs (quick_plan_q mounted m qs lines)))

-- the plan buffer after it
unfoldable pub quick_buffer : Refusal → ℕ → Mounted → List ℕ → List ℕ → List ℕ → List ℕ
quick_buffer earlier m mounted qs lines plan =
    lent_by (plan_refusal earlier (length lines) (length plan)) (length lines) (quick_plan_q mounted m qs lines) plan

-- best sharing, with a plan buffer of `room` bytes and a table of `places` numbers: its pairs and its table are the same for every mounted tip
unfoldable pub best_of : Refusal → ℕ → List ℕ → List ℕ → ℕ → ℕ → PlanAnswer
best_of earlier m qs lines room places = plan_answer (best_refusal earlier m lines room places) (C (repeated qs lines) 0 m)

-- the plan buffer and the table after it
unfoldable pub best_buffer : Refusal → ℕ → Mounted → List ℕ → List ℕ → List ℕ → ℕ → List ℕ
best_buffer earlier m mounted qs lines plan places =
    lent_by (best_refusal earlier m lines (length plan) places) (length lines) (best_plan_q mounted m qs lines) plan

unfoldable pub best_table : Refusal → ℕ → List ℕ → List ℕ → ℕ → List ℕ → List ℕ
best_table earlier m qs lines room cells = lent_by (best_refusal earlier m lines room (length cells)) (m * m) (table m (repeated qs lines)) cells

-- the check of a plan, a claimed pair count and a table: what best sharing asks, then 19, 20 and 33, of the plan's first bytes, one for each line
unfoldable pub check_of : Refusal → ℕ → List ℕ → List ℕ → List ℕ → ℕ → List ℕ → Refusal
check_of earlier m qs lines plan claim tab =
    or_else (best_refusal earlier m lines (length plan) (length tab)) (check_refusal m qs lines (take (length lines) plan) claim tab)

-- write, with an output of room bytes: the version is 1 where each quantity is 1, else 2
unfoldable pub write_of : Refusal → List ℕ → List ℕ → ℕ → FileAnswer
write_of earlier qs lines room =
    let r = write_refusal earlier (version_for qs) (length lines) room in
    record { refusal = r; bytes = told r (file_length (version_for qs) (length lines)) }

-- the output after it
unfoldable pub write_buffer : Refusal → ℕ → List ℕ → List ℕ → List ℕ → List ℕ
write_buffer earlier m qs lines out =
    let bytes = file_length (version_for qs) (length lines) in
    lent_by (write_refusal earlier (version_for qs) (length lines) (length out)) bytes (written_of m qs lines) out
