-- The cases of each call on a board, in the order of RULES 4.3: each a reason with the sentence that is refused.
use Rattle.std.specs.Prelude.{ℕ, ◌+◌, List, [], ◌∷◌, ◌++◌, length, take}
use Rattle.model.specs.Choice.{Mounted}
use Rattle.placements.specs.Repeated.{total}
use Rattle.refusal.specs.declared.Reason.TheVariants.{RackSize}
use Rattle.cases.specs.Cases.{Case, plain}
use Rattle.call_refusals.specs.declared.Stage.{Stage}
use Rattle.call_refusals.specs.declared.Stage.TheVariants.{Open, Closed}
use Rattle.call_cases.specs.State
use Rattle.call_cases.specs.Calls
use Rattle.call_cases.specs.Reading
use Rattle.board.specs.declared.Board.{Board}
use Rattle.board.specs.Board.{lines_of, quantities_of}

-- 1
abbrev pub open_cases : ℕ → List Case
open_cases m = plain RackSize (State.RackOut m) ∷ []

-- 21, 27, 28, then 22 or 23
abbrev pub state_cases : Stage → Board → List Case
state_cases asked b = State.state_cases asked b.rack b.stage b.count b.quantities b.sets

-- 21, 27, 28, 22, 24, then 2, 3 or 15, then 30
abbrev pub add_cases : Board → ℕ → ℕ → List Case
add_cases b s q = state_cases Open b ++ Calls.add_cases b.rack b.count (total (quantities_of b)) s q

-- 21, 27, 28, 22
abbrev pub close_cases : Board → List Case
close_cases b = state_cases Open b

-- 21, 27, 28, 23
abbrev pub common_cases : Board → List Case
common_cases b = state_cases Closed b

-- 21, 27, 28, 23, 26
abbrev pub keep_cases : Board → ℕ → List Case
keep_cases b k = state_cases Closed b ++ Calls.keep_cases b.rack (quantities_of b) (lines_of b) k

-- 21, 27, 28, 23, 25, 34
abbrev pub goal_cases : Board → ℕ → List Case
goal_cases b K = state_cases Closed b ++ Calls.goal_cases (quantities_of b) (lines_of b) K

-- 21, 27, 28, 23, 16, 4
abbrev pub quick_cases : Board → Mounted → ℕ → List Case
quick_cases b mounted room = state_cases Closed b ++ Calls.mounted_cases b.rack mounted ++ Calls.plan_cases (length (lines_of b)) room

-- the same
abbrev pub along_cases : Board → Mounted → ℕ → List Case
along_cases = quick_cases

-- 21, 27, 28, 23, 16, 4, 5, 25
abbrev pub best_cases : Board → Mounted → ℕ → ℕ → List Case
best_cases b mounted room places =
    state_cases Closed b ++ Calls.mounted_cases b.rack mounted ++ Calls.best_cases b.rack (lines_of b) room places

-- 21, 27, 28, 23, 16, 4, 35, 5
abbrev pub exact_cases : Board → Mounted → ℕ → ℕ → List Case
exact_cases b mounted room places =
    state_cases Closed b ++ Calls.mounted_cases b.rack mounted ++ Calls.exact_cases b.rack (lines_of b) room places

-- 21, 27, 28, 23, 4, 5, 25, 19, 20, 33
abbrev pub check_cases : Board → List ℕ → ℕ → List ℕ → List Case
check_cases b plan claim tab =
    state_cases Closed b ++ Calls.best_cases b.rack (lines_of b) (length plan) (length tab)
    ++ Calls.check_cases b.rack (quantities_of b) (lines_of b) (take (length (lines_of b)) plan) claim tab

-- 21, 27, 28, 23, 24, 1, 4, 31
abbrev pub junior_cases : Board → ℕ → List Case
junior_cases b room = state_cases Closed b ++ Calls.junior_cases b.rack (lines_of b) room

-- 6, 7, 8, 1, 9, 10, then 2, 3 or 15 of the first bad line, then 30
abbrev pub read_cases : List ℕ → List Case
read_cases file = Reading.read_cases file

-- 21, 27, 28, 23, 11
abbrev pub write_cases : Board → ℕ → List Case
write_cases b room = state_cases Closed b ++ Calls.write_cases (quantities_of b) (lines_of b) room

-- 21, 27, 28, 23 of the first board, then of the second
abbrev pub states_cases : Board → Board → List Case
states_cases a b = state_cases Closed a ++ state_cases Closed b

-- these, then 17, 24, 30
abbrev pub merge_cases : Board → Board → List Case
merge_cases a b =
    states_cases a b
    ++ Calls.merge_cases a.rack b.rack (length (lines_of a) + length (lines_of b)) (total (quantities_of a) + total (quantities_of b))

-- these, then 4
abbrev pub alone_cases : Board → Board → ℕ → List Case
alone_cases a b room = states_cases a b ++ Calls.plan_cases (length (lines_of a) + length (lines_of b)) room
