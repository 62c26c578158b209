-- What the program tipshare prints for a file.
use Rattle.std.specs.Prelude.{ℕ, ◌+◌, ◌*◌, ◌-◌, ◌≤◌, ◌≡◌, Bool, cond, List, [], T, ltb, take}
use Rattle.model.specs.Count.{each}
use Rattle.model.specs.Limits.{most_lines}
use Rattle.model.specs.Plan.{pairs}
use Rattle.model.specs.Choice.{bare}
use Rattle.model.specs.CommonTip.{top, W}
use Rattle.model.specs.Interval.{named, is_run_of, C}
use Rattle.placements.specs.Repeated.{total, repeated}
use Rattle.placements.specs.Plans.{quick_plan_q, best_plan_q}
use Rattle.refusal.specs.Refusal.{none, accepts}
use Rattle.job.specs.Job.{header_length, set_length, rack_in, quantities_in, sets_in, read_refusal}
use Rattle.line_calls.specs.Rules.{HalfRule, BestRule}
use Rattle.report.specs.Report.{Facts, report_of, refused_text}

-- each line is a run of the named tips
abbrev pub all_runs : List ℕ → Bool
all_runs sets = each (is_run_of (named sets)) sets

-- what is reported of lines with quantities: the least off count and W, both pair counts, and both plans; those of best sharing count only where
-- every line is a run of the named tips. Counted are placements, planned are lines.
unfoldable pub facts_of : ℕ → List ℕ → List ℕ → Facts
facts_of m qs sets =
    let placements = repeated qs sets in
    let quick = quick_plan_q bare m qs sets in
    record {
      rack = m;
      off = total qs - top m placements;
      tips = W m placements;
      quick_pairs = pairs (repeated qs quick);
      runs = all_runs sets;
      best_pairs = C placements 0 m;
      quick = quick;
      best = best_plan_q bare m qs sets;
    }

-- what best sharing gives of the lines: whether each is a run, and where it is so the pairs, and the plan
pub record BestTold (m : ℕ) (qs sets : List ℕ) (runs : Bool) (shared : ℕ) (plan : List ℕ) : Type 0 where
  pub runs_are : runs ≡ all_runs sets
  pub pairs_are : T runs → shared ≡ C (repeated qs sets) 0 m
  pub plan_is : T runs → plan ≡ best_plan_q bare m qs sets

-- the text for a file: the report on its lines, or the number of its refusal
unfoldable pub text_of : List ℕ → List ℕ
text_of file =
    let r = read_refusal file in
    cond (accepts r) (report_of (facts_of (rack_in file) (quantities_in file) (sets_in file))) (refused_text r.number)

-- the bytes of a file that are taken: one more than the longest good file has, the most lines with quantities
abbrev pub taken_bytes : ℕ
taken_bytes = header_length + (set_length + 1) * most_lines + 1

-- this part of a file
abbrev pub taken : List ℕ → List ℕ
taken file = take taken_bytes file

-- the bytes that are enough for every text
abbrev pub text_room : ℕ
text_room = 16_384

-- the text for the part of a file that tipshare takes; no text where the buffer of room bytes may be too short for one
unfoldable pub summary_of : List ℕ → ℕ → List ℕ
summary_of file room = cond (ltb room text_room) [] (text_of (taken file))

-- of plans that are reported: quick's keeps the half rule, and where every line is a run best's keeps the best rule
pub record PlansRule (qs sets : List ℕ) (f : Facts) : Type 0 where
  pub half : HalfRule qs sets f.quick 0 f.quick_pairs
  pub best : T f.runs → BestRule qs sets f.best 0 f.best_pairs

-- the bytes printed for a file that is read are the report of such plans
abbrev pub ReportRule : List ℕ → ℕ → ℕ → List ℕ → Type 0
ReportRule file room count out =
    text_room ≤ room → read_refusal (taken file) ≡ none
    → (f : Facts) × PlansRule (quantities_in (taken file)) (sets_in (taken file)) f × (take count out ≡ report_of f)
