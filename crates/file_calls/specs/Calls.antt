-- What each call gives for a job file: what it answers for the file's lines and their quantities after the refusal of reading.
use Rattle.std.specs.Prelude.{ℕ, cond, List, eqb}
use Rattle.placements.specs.Keep.{prune_q}
use Rattle.model.specs.Choice.{Mounted}
use Rattle.refusal.specs.Told.{Refusal}
use Rattle.refusal.specs.Refusal.{told}
use Rattle.call_refusals.specs.Calls.{mounted_refusal}
use Rattle.job.specs.Job.{rack_in, count_in, sets_in, quantities_in, read_refusal}
use Rattle.line_calls.specs.Answers.{CommonAnswer}
use Rattle.line_calls.specs.Answers.{PlanAnswer}
use Rattle.line_calls.specs.Answers.{KeepAnswer}
use Rattle.line_calls.specs.Answers.{FileAnswer}
use Rattle.line_calls.specs.Lines.{common_of, keep_of, quick_of, quick_buffer, best_of, best_buffer, best_table, check_of, write_of, write_buffer}
use Rattle.file_calls.specs.Outcomes.{Outcome, twos_complement}

-- read: the rack size and the number of lines
unfoldable pub read_in : List ℕ → Outcome
read_in file =
    let r = read_refusal file in
    record { refusal = r; first = told r (rack_in file); second = told r (count_in file); third = 0 }

-- top, off and the set of the common tips
abbrev pub common_outcome : CommonAnswer → Outcome
common_outcome a = record { refusal = a.refusal; first = a.top; second = a.off; third = a.tips }

-- common tip
unfoldable pub common_in : List ℕ → Outcome
common_in file = common_outcome (common_of (read_refusal file) (rack_in file) (quantities_in file) (sets_in file))

-- the pairs in a plan
abbrev pub plan_outcome : PlanAnswer → Outcome
plan_outcome a = record { refusal = a.refusal; first = a.pairs; second = 0; third = 0 }

-- what is refused before a plan is: the file, then a mounted tip outside its rack
abbrev pub mounted_in : List ℕ → Mounted → Refusal
mounted_in file mounted = mounted_refusal (read_refusal file) (rack_in file) mounted

-- quick sharing, with a plan buffer of room bytes
unfoldable pub quick_in : List ℕ → Mounted → ℕ → Outcome
quick_in file mounted room = plan_outcome (quick_of (mounted_in file mounted) (rack_in file) mounted (quantities_in file) (sets_in file) room)

-- the plan buffer after quick sharing
unfoldable pub quick_plan_in : List ℕ → Mounted → List ℕ → List ℕ
quick_plan_in file mounted plan = quick_buffer (mounted_in file mounted) (rack_in file) mounted (quantities_in file) (sets_in file) plan

-- best sharing, with a plan buffer of `room` bytes and a table of `places` numbers
unfoldable pub best_in : List ℕ → Mounted → ℕ → ℕ → Outcome
best_in file mounted room places = plan_outcome (best_of (mounted_in file mounted) (rack_in file) (quantities_in file) (sets_in file) room places)

-- the plan buffer and the table after best sharing
unfoldable pub best_plan_in : List ℕ → Mounted → List ℕ → ℕ → List ℕ
best_plan_in file mounted plan places = best_buffer (mounted_in file mounted) (rack_in file) mounted (quantities_in file) (sets_in file) plan places

unfoldable pub best_table_in : List ℕ → Mounted → ℕ → List ℕ → List ℕ
best_table_in file mounted room cells = best_table (mounted_in file mounted) (rack_in file) (quantities_in file) (sets_in file) room cells

-- the bytes of a file that is written
abbrev pub file_outcome : FileAnswer → Outcome
file_outcome w = record { refusal = w.refusal; first = w.bytes; second = 0; third = 0 }

-- a refusal without counts
abbrev pub check_outcome : Refusal → Outcome
check_outcome r = record { refusal = r; first = 0; second = 0; third = 0 }

-- the check of a plan, a claimed pair count and a table
unfoldable pub check_in : List ℕ → List ℕ → ℕ → List ℕ → Outcome
check_in file plan claim tab = check_outcome (check_of (read_refusal file) (rack_in file) (quantities_in file) (sets_in file) plan claim tab)

-- the margin of keep and the bytes of the kept file; 26 carries its margin, and 11 carries none
abbrev pub keep_outcome : KeepAnswer → FileAnswer → Outcome
keep_outcome kept w = record {
  refusal = w.refusal;
  first = cond (eqb w.refusal.number 11) 0 (twos_complement kept.margin);
  second = w.bytes;
  third = 0;
}

-- keep within k, and the kept lines written with their quantities to an output of room bytes
unfoldable pub keep_in : List ℕ → ℕ → ℕ → Outcome
keep_in file k room =
    let kept = keep_of (read_refusal file) (rack_in file) (quantities_in file) (sets_in file) k in
    keep_outcome kept (write_of kept.refusal (quantities_in file) (prune_q (rack_in file) (quantities_in file) (sets_in file) k) room)

-- the output after keep within k
unfoldable pub keep_file_in : List ℕ → ℕ → List ℕ → List ℕ
keep_file_in file k out =
    let kept = keep_of (read_refusal file) (rack_in file) (quantities_in file) (sets_in file) k in
    write_buffer kept.refusal (rack_in file) (quantities_in file) (prune_q (rack_in file) (quantities_in file) (sets_in file) k) out
