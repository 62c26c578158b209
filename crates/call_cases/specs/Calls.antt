-- What each call asks after the board's state or after reading a file, as cases in the order of RULES 4.3.
use Rattle.std.specs.Prelude.{ℕ, ◌+◌, ◌*◌, ◌≤◌, ◌<◌, ◌≡◌, ◌⊎◌, T, List, [], ◌∷◌, ◌++◌, length, get_or}
use Rattle.model.specs.Plan.{has, pairs}
use Rattle.model.specs.Choice.{Mounted, bare, tip}
use Rattle.model.specs.Interval.{named, split, Misses}
use Rattle.model.specs.Limits.{most_lines, most_placements}
use Rattle.placements.specs.Repeated.{repeated}
use Rattle.refusal.specs.declared.Reason.TheVariants.{RackSize, ShortPlan, ShortTable, ShortOutput}
use Rattle.refusal.specs.declared.Reason.TheVariants.{MountedOutside, RacksDiffer, ForeignTip, WrongClaim, TooManyLines, NoRun, NoPlan}
use Rattle.refusal.specs.declared.Reason.TheVariants.{TooManyPlacements, NoTwoTips, WrongTable, GoalMissed, TooManyNamed}
use Rattle.goal_rules.specs.Check.{entry}
use Rattle.holder_rules.specs.Holders.{NoneOnTips}
use Rattle.job.specs.Job.{file_length, version_for}
use Rattle.cases.specs.Cases.{Case, plain, placed}
use Rattle.call_refusals.specs.Junior.{junior_lines, junior_tips}
use Rattle.subset_rules.specs.Exact.{most_named}
use Rattle.subset_rules.specs.Table.{table_places}
use Rattle.line_calls.specs.Rules.{NoneWithin}
use Rattle.line_calls.specs.Exact.{count_named}
use Rattle.line_calls.specs.Goal.{NoneMeets}
use Rattle.call_cases.specs.State.{line_cases}

-- a tip is mounted that is outside a rack of m tips
abbrev pub OffRack : ℕ → Mounted → Type 0
OffRack m bare = ⊥
OffRack m (tip t) = m ≤ t

-- line i is no run: it misses a tip that some line names, between its lowest and its highest
abbrev pub Broken : List ℕ → ℕ → Type 0
Broken lines i = (i < length lines) × ((c : ℕ) × Misses lines (get_or lines i 0) c)

-- some line is on a tip that is not of its set
abbrev pub Foreign : List ℕ → List ℕ → Type 0
Foreign lines plan = (i : ℕ) × (i < length lines) × (T (has (get_or lines i 0) (get_or plan i 0)) → ⊥)

-- the table's entry for some interval, of w tips from a, is less than its split at a named tip a + i
abbrev pub Less : ℕ → List ℕ → List ℕ → List ℕ → Type 0
Less m qs lines tab =
    (a : ℕ) × (w : ℕ) × (i : ℕ) × (a + w ≤ m) × (i < w) × T (named lines (a + i)) × (entry m tab a w < split (entry m tab) (repeated qs lines) a w i)

-- add to n lines that have t placements, of a line with set s and quantity q: 24, then 2, 3 or 15, then 30
abbrev pub add_cases : ℕ → ℕ → ℕ → ℕ → ℕ → List Case
add_cases m n t s q =
    (plain TooManyLines (n ≡ most_lines) ∷ []) ++ line_cases m s q ++ (plain TooManyPlacements (most_placements < t + q) ∷ [])

-- keep within k placements: 26, no valid plan is within k
abbrev pub keep_cases : ℕ → List ℕ → List ℕ → ℕ → List Case
keep_cases m qs lines k = plain NoPlan (NoneWithin m qs lines k) ∷ []

-- a goal of K pairs: 25, then 34, no valid plan has K
abbrev pub goal_cases : List ℕ → List ℕ → ℕ → List Case
goal_cases qs lines K = placed NoRun (Broken lines) ∷ plain GoalMissed (NoneMeets qs lines K) ∷ []

-- quick and best, before the rest: 16
abbrev pub mounted_cases : ℕ → Mounted → List Case
mounted_cases m mounted = plain MountedOutside (OffRack m mounted) ∷ []

-- a plan of n lines, where the plan buffer has room bytes: 4
abbrev pub plan_cases : ℕ → ℕ → List Case
plan_cases n room = plain ShortPlan (room < n) ∷ []

-- best sharing, with a plan buffer of `room` bytes and a table of `places` numbers: 4, 5, 25
abbrev pub best_cases : ℕ → List ℕ → ℕ → ℕ → List Case
best_cases m lines room places =
    plain ShortPlan (room < length lines) ∷ plain ShortTable (places < m * m) ∷ placed NoRun (Broken lines) ∷ []

-- exact sharing, where the table has the places: 4, 35, 5
abbrev pub exact_cases : ℕ → List ℕ → ℕ → ℕ → List Case
exact_cases m lines room places =
    plain ShortPlan (room < length lines)
    ∷ plain TooManyNamed (most_named < count_named m lines)
    ∷ plain ShortTable (places < table_places (count_named m lines))
    ∷ []

-- the check of a plan that has a byte for each line, a claim and a table, after 4, 5 and 25: 19, 20, 33
abbrev pub check_cases : ℕ → List ℕ → List ℕ → List ℕ → ℕ → List ℕ → List Case
check_cases m qs lines plan claim tab =
    plain ForeignTip (Foreign lines plan)
    ∷ plain WrongClaim (claim ≡ pairs (repeated qs plan) → ⊥)
    ∷ plain WrongTable ((entry m tab 0 m ≡ claim → ⊥) ⊎ Less m qs lines tab)
    ∷ []

-- the Junior: 24, 1, 4, then 31, no valid plan is on one tip or two
abbrev pub junior_cases : ℕ → List ℕ → ℕ → List Case
junior_cases m lines room =
    plain TooManyLines (junior_lines < length lines)
    ∷ plain RackSize (junior_tips < m)
    ∷ plain ShortPlan (room < length lines)
    ∷ plain NoTwoTips (NoneOnTips lines)
    ∷ []

-- write, where the output has room bytes: 11
abbrev pub write_cases : List ℕ → List ℕ → ℕ → List Case
write_cases qs lines room = plain ShortOutput (room < file_length (version_for qs) (length lines)) ∷ []

-- merge racks of m and o tips, with the lines and placements of both: 17, 24, 30
abbrev pub merge_cases : ℕ → ℕ → ℕ → ℕ → List Case
merge_cases m o lines placements =
    plain RacksDiffer (m ≡ o → ⊥)
    ∷ plain TooManyLines (most_lines < lines)
    ∷ plain TooManyPlacements (most_placements < placements)
    ∷ []
