-- The cases of each call on a job file, in the order of RULES 4.3: those of reading, then those of the call, then 11 where a file is written.
use Rattle.std.specs.Prelude.{ℕ, ◌+◌, List, ◌++◌, length, take}
use Rattle.model.specs.Choice.{Mounted}
use Rattle.placements.specs.Repeated.{total}
use Rattle.placements.specs.Keep.{prune_q}
use Rattle.job.specs.Job.{rack_in, sets_in, quantities_in}
use Rattle.cases.specs.Cases.{Case}
use Rattle.call_cases.specs.Calls
use Rattle.call_cases.specs.Reading
use Rattle.file_calls.specs.Goal.{struck_in}

-- 6, 7, 8, 1, 9, 10, then 2, 3 or 15 of the first bad line, then 30
abbrev pub read_cases : List ℕ → List Case
read_cases file = Reading.read_cases file

-- these, 26, 11
abbrev pub keep_cases : List ℕ → ℕ → ℕ → List Case
keep_cases file k room =
    read_cases file ++ Calls.keep_cases (rack_in file) (quantities_in file) (sets_in file) k
    ++ Calls.write_cases (quantities_in file) (prune_q (rack_in file) (quantities_in file) (sets_in file) k) room

-- these, 25, 34, 11
abbrev pub goal_cases : List ℕ → ℕ → ℕ → List Case
goal_cases file K room =
    read_cases file ++ Calls.goal_cases (quantities_in file) (sets_in file) K ++ Calls.write_cases (quantities_in file) (struck_in file K) room

-- these, 16, 4
abbrev pub quick_cases : List ℕ → Mounted → ℕ → List Case
quick_cases file mounted room = read_cases file ++ Calls.mounted_cases (rack_in file) mounted ++ Calls.plan_cases (length (sets_in file)) room

-- the same
abbrev pub along_cases : List ℕ → Mounted → ℕ → List Case
along_cases = quick_cases

-- these, 16, 4, 5, 25
abbrev pub best_cases : List ℕ → Mounted → ℕ → ℕ → List Case
best_cases file mounted room places =
    read_cases file ++ Calls.mounted_cases (rack_in file) mounted ++ Calls.best_cases (rack_in file) (sets_in file) room places

-- these, 16, 4, 35, 5
abbrev pub exact_cases : List ℕ → Mounted → ℕ → ℕ → List Case
exact_cases file mounted room places =
    read_cases file ++ Calls.mounted_cases (rack_in file) mounted ++ Calls.exact_cases (rack_in file) (sets_in file) room places

-- these, 4, 5, 25, 19, 20, 33
abbrev pub check_cases : List ℕ → List ℕ → ℕ → List ℕ → List Case
check_cases file plan claim tab =
    read_cases file ++ Calls.best_cases (rack_in file) (sets_in file) (length plan) (length tab)
    ++ Calls.check_cases (rack_in file) (quantities_in file) (sets_in file) (take (length (sets_in file)) plan) claim tab

-- these, 24, 1, 4, 31
abbrev pub junior_cases : List ℕ → ℕ → List Case
junior_cases file room = read_cases file ++ Calls.junior_cases (rack_in file) (sets_in file) room

-- those of reading the first file, then of the second
abbrev pub reads_cases : List ℕ → List ℕ → List Case
reads_cases first second = read_cases first ++ read_cases second

-- these, 17, 24, 30, 11
abbrev pub merge_cases : List ℕ → List ℕ → ℕ → List Case
merge_cases first second room =
    reads_cases first second
    ++ Calls.merge_cases (rack_in first) (rack_in second) (length (sets_in first) + length (sets_in second))
    (total (quantities_in first) + total (quantities_in second))
    ++ Calls.write_cases (quantities_in first ++ quantities_in second) (sets_in first ++ sets_in second) room

-- these, 4
abbrev pub alone_cases : List ℕ → List ℕ → ℕ → List Case
alone_cases first second room = reads_cases first second ++ Calls.plan_cases (length (sets_in first) + length (sets_in second)) room
