-- Two boards on one panel, in racks of m and o tips: what merging their lines and planning each alone answer after an earlier refusal.
use Rattle.std.specs.Prelude.{ℕ, ◌+◌, not, List, ◌++◌, eqb, ltb, length}
use Rattle.model.specs.Plan.{pairs}
use Rattle.model.specs.Choice.{bare}
use Rattle.model.specs.Limits.{most_lines, most_placements}
use Rattle.placements.specs.Repeated.{total, repeated}
use Rattle.placements.specs.Plans.{quick_plan_q}
use Rattle.refusal.specs.Told.{Refusal}
use Rattle.refusal.specs.Refusal.{or_else, when, told, lent_by}
use Rattle.call_refusals.specs.Calls.{plan_refusal}
use Rattle.panel.specs.Answers.{AloneAnswer}

-- merge: racks that differ, then too many lines together, then too many placements together
unfoldable pub merge_refusal : Refusal → ℕ → ℕ → ℕ → ℕ → Refusal
merge_refusal earlier m o lines placements =
    or_else earlier (or_else (when (not (eqb m o)) 17) (or_else (when (ltb most_lines lines) 24) (when (ltb most_placements placements) 30)))

-- merge, of the lines with their quantities
unfoldable pub merge_of : Refusal → ℕ → List ℕ → List ℕ → ℕ → List ℕ → List ℕ → Refusal
merge_of earlier m qs lines o rs others = merge_refusal earlier m o (length lines + length others) (total qs + total rs)

-- the places that are lent: those of the first and then those of the second, the rest as it was; after a refusal all is as it was
abbrev pub merged_by : Refusal → List ℕ → List ℕ → List ℕ → List ℕ
merged_by r first second old = lent_by r (length first + length second) (first ++ second) old

-- planning each alone: a buffer of room bytes that is shorter than both plans together
abbrev pub alone_refusal : Refusal → List ℕ → List ℕ → ℕ → Refusal
alone_refusal earlier lines others room = plan_refusal earlier (length lines + length others) room

-- the quick plan of lines, without a mounted tip
abbrev pub alone_plan : ℕ → List ℕ → List ℕ → List ℕ
alone_plan m qs lines = quick_plan_q bare m qs lines

unfoldable pub alone_of : Refusal → ℕ → List ℕ → List ℕ → ℕ → List ℕ → List ℕ → ℕ → AloneAnswer
alone_of earlier m qs lines o rs others room =
    let r = alone_refusal earlier lines others room in
    record {
      refusal = r;
      first_pairs = told r (pairs (repeated qs (alone_plan m qs lines)));
      second_pairs = told r (pairs (repeated rs (alone_plan o rs others)));
    }

-- the plan buffer after it: the plan of the second from the first's line count on, and the bytes past both as they were
unfoldable pub alone_buffer : Refusal → ℕ → List ℕ → List ℕ → ℕ → List ℕ → List ℕ → List ℕ → List ℕ
alone_buffer earlier m qs lines o rs others plan =
    let r = alone_refusal earlier lines others (length plan) in
    lent_by r (length lines + length others) (alone_plan m qs lines ++ alone_plan o rs others) plan
