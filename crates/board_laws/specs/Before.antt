-- What the calls of the base answered and left, by its rules and its refusals: for the sets of lines after an earlier refusal, for a board of sets
-- alone, and for a file of version 1. For laws that say 'as before': no call's contract speaks of these.
use Rattle.std.specs.Prelude.{ℕ, ◌+◌, ◌*◌, cond, ◌&&◌, List, map, ◌++◌, leb, pos, length, drop, set, replicate}
use Rattle.model.specs.Plan.{pairs}
use Rattle.model.specs.Before.{top_before, off_before, W_before, margin_before, prune_before, quick_before, C_before, best_tip_before, table_before}
use Rattle.refusal.specs.Told.{Refusal}
use Rattle.refusal.specs.Refusal.{none, refuse, accepts, told, lent_by}
use Rattle.call_refusals.specs.declared.Stage.{Stage}
use Rattle.call_refusals.specs.declared.Stage.TheVariants.{Open, Closed}
use Rattle.call_refusals.specs.Before.{state_before, add_refusal_before, keep_refusal_before, quick_refusal_before, best_refusal_before}
use Rattle.call_refusals.specs.Before.{write_refusal_before, told_before}
use Rattle.line_calls.specs.Answers.{CommonAnswer, KeepAnswer, PlanAnswer, FileAnswer}
use Rattle.board.specs.declared.Board.{Board}
use Rattle.board.specs.Answers.{Answer, Common, Kept, Shared, Written}
use Rattle.board.specs.Board.{lines_of, answer}
use Rattle.board.specs.Sharing.{shared}
use Rattle.file_calls.specs.Outcomes.{Outcome}
use Rattle.file_calls.specs.Calls.{common_outcome, plan_outcome, keep_outcome}
use Rattle.board_laws.specs.Format.{rack_found, count_found, sets_found, file_refusal_before, file_before}

-- ---- lines, after an earlier refusal

abbrev pub common_lines : Refusal → ℕ → List ℕ → CommonAnswer
common_lines r m lines =
    record { refusal = r; top = told r (top_before m lines); off = told r (off_before m lines); tips = told r (W_before m lines) }

-- 26 carries its margin
abbrev pub keep_lines : Refusal → ℕ → List ℕ → ℕ → KeepAnswer
keep_lines r m lines k =
    let z = margin_before m lines k in
    record { refusal = keep_refusal_before r z; margin = cond (accepts r) z (pos 0) }

-- the sets after keep: the lines pruned, the others as they were
abbrev pub sets_lines : Refusal → ℕ → List ℕ → ℕ → List ℕ → List ℕ
sets_lines r m lines k sets = lent_by (keep_refusal_before r (margin_before m lines k)) (length lines) (prune_before m lines k) sets

-- a refusal, or the pairs of a plan
abbrev pub pairs_lines : Refusal → ℕ → PlanAnswer
pairs_lines r p = record { refusal = r; pairs = told r p }

abbrev pub quick_lines : Refusal → ℕ → List ℕ → ℕ → PlanAnswer
quick_lines r m lines room = pairs_lines (quick_refusal_before r (length lines) room) (pairs (quick_before m lines))

abbrev pub quick_plan_lines : Refusal → ℕ → List ℕ → List ℕ → List ℕ
quick_plan_lines r m lines plan = lent_by (quick_refusal_before r (length lines) (length plan)) (length lines) (quick_before m lines) plan

-- best sharing, where pairs are of placements: in the base each line was one, and the placements were the lines
abbrev pub best_lines : Refusal → ℕ → List ℕ → List ℕ → ℕ → ℕ → PlanAnswer
best_lines r m placements lines room places = pairs_lines (best_refusal_before r m lines room places) (C_before placements 0 m)

abbrev pub best_plan_lines : Refusal → ℕ → List ℕ → List ℕ → List ℕ → ℕ → List ℕ
best_plan_lines r m placements lines plan places =
    lent_by (best_refusal_before r m lines (length plan) places) (length lines) (map (best_tip_before m placements 0 m) lines) plan

abbrev pub best_table_lines : Refusal → ℕ → List ℕ → List ℕ → ℕ → List ℕ → List ℕ
best_table_lines r m placements lines room cells =
    lent_by (best_refusal_before r m lines room (length cells)) (m * m) (table_before m placements) cells

abbrev pub write_lines : Refusal → List ℕ → ℕ → FileAnswer
write_lines r lines room =
    let d = write_refusal_before r (length lines) room in
    record { refusal = d; bytes = told d (8 + 8 * length lines) }

abbrev pub written_lines : Refusal → ℕ → List ℕ → List ℕ → List ℕ
written_lines r m lines out = lent_by (write_refusal_before r (length lines) (length out)) (8 + 8 * length lines) (file_before m lines) out

-- ---- a board

-- the refusals of the board's state
abbrev pub state : Stage → Board → Refusal
state asked b = state_before asked b.rack b.stage b.count b.sets

-- empty sets, or quantities 0, a place for each line of the longest board
unfoldable pub nothing : List ℕ
nothing = replicate 512 0

-- an open board without lines
abbrev pub bare_board : ℕ → Board
bare_board m = record { rack = m; stage = Open; count = 0; sets = nothing; quantities = nothing }

-- a rack of 1 to 64 tips; a refused open gave an open board of rack 1
unfoldable pub opened_before : ℕ → Answer
opened_before m = cond (leb 1 m && leb m 64) (answer (bare_board m) none) (answer (bare_board 1) (refuse 1))

-- the board with one more line at the end, whose quantity is 1
abbrev pub added : Board → ℕ → Board
added b s =
    record { rack = b.rack; stage = b.stage; count = b.count + 1; sets = set b.sets b.count s; quantities = set b.quantities b.count 1 }

abbrev pub added_before : Board → ℕ → Answer
added_before b s =
    let d = add_refusal_before (state Open b) b.rack b.count s in
    cond (accepts d) (answer (added b s) none) (answer b d)

-- an open board becomes closed, its lines as they were
abbrev pub shut : Board → Board
shut b = record { rack = b.rack; stage = Closed; count = b.count; sets = b.sets; quantities = b.quantities }

abbrev pub closed_before : Board → Answer
closed_before b =
    let d = state Open b in
    cond (accepts d) (answer (shut b) none) (answer b d)

abbrev pub common_answer : Board → CommonAnswer → Common
common_answer b a = record { board = b; number = a.refusal.number; place = a.refusal.place; top = a.top; off = a.off; tips = a.tips }

abbrev pub common_before : Board → Common
common_before b = common_answer b (common_lines (state Closed b) b.rack (lines_of b))

-- the board with other sets
abbrev pub kept_answer : Board → List ℕ → KeepAnswer → Kept
kept_answer b sets a =
    let board : Board = record { rack = b.rack; stage = b.stage; count = b.count; sets = sets; quantities = b.quantities } in
    record { board = board; number = a.refusal.number; place = a.refusal.place; margin = a.margin }

abbrev pub kept_before : Board → ℕ → Kept
kept_before b k =
    let r = state Closed b in
    kept_answer b (sets_lines r b.rack (lines_of b) k b.sets) (keep_lines r b.rack (lines_of b) k)

abbrev pub quick_answer_before : Board → ℕ → Shared
quick_answer_before b room = shared b (quick_lines (state Closed b) b.rack (lines_of b) room)

abbrev pub best_answer_before : Board → ℕ → ℕ → Shared
best_answer_before b room places = shared b (best_lines (state Closed b) b.rack (lines_of b) (lines_of b) room places)

abbrev pub written_answer : Board → FileAnswer → Written
written_answer b a = record { board = b; number = a.refusal.number; place = a.refusal.place; bytes = a.bytes }

abbrev pub written_before : Board → ℕ → Written
written_before b room = written_answer b (write_lines (state Closed b) (lines_of b) room)

-- ---- today's answers as the base told them: 21 at place 0 stood for 27 and 28

abbrev pub refusal_told : ℕ → ℕ → Refusal
refusal_told number place = told_before (record { number = number; place = place })

abbrev pub answer_told : Answer → Answer
answer_told r = answer r.board (refusal_told r.number r.place)

abbrev pub common_told : Common → Common
common_told r =
    let d = refusal_told r.number r.place in
    record { board = r.board; number = d.number; place = d.place; top = r.top; off = r.off; tips = r.tips }

abbrev pub kept_told : Kept → Kept
kept_told r =
    let d = refusal_told r.number r.place in
    record { board = r.board; number = d.number; place = d.place; margin = r.margin }

abbrev pub shared_told : Shared → Shared
shared_told r =
    let d = refusal_told r.number r.place in
    record { board = r.board; number = d.number; place = d.place; pairs = r.pairs }

abbrev pub written_told : Written → Written
written_told r =
    let d = refusal_told r.number r.place in
    record { board = r.board; number = d.number; place = d.place; bytes = r.bytes }

-- ---- a file of version 1

-- the board of the file: closed, and each line has quantity 1
abbrev pub board_found : List ℕ → Board
board_found file =
    let n = count_found file in
    record {
      rack = rack_found file;
      stage = Closed;
      count = n;
      sets = sets_found file ++ drop n nothing;
      quantities = replicate n 1 ++ drop n nothing;
    }

abbrev pub board_read : List ℕ → Answer
board_read file =
    let r = file_refusal_before file in
    cond (accepts r) (answer (board_found file) none) (answer (bare_board 1) r)

abbrev pub read_file : List ℕ → Outcome
read_file file =
    let r = file_refusal_before file in
    record { refusal = r; first = told r (rack_found file); second = told r (count_found file); third = 0 }

abbrev pub common_file : List ℕ → Outcome
common_file file = common_outcome (common_lines (file_refusal_before file) (rack_found file) (sets_found file))

-- keep, and the pruned lines written
abbrev pub keep_file : List ℕ → ℕ → ℕ → Outcome
keep_file file k room =
    let kept = keep_lines (file_refusal_before file) (rack_found file) (sets_found file) k in
    keep_outcome kept (write_lines kept.refusal (prune_before (rack_found file) (sets_found file) k) room)

abbrev pub kept_file : List ℕ → ℕ → List ℕ → List ℕ
kept_file file k out =
    let m = rack_found file in
    let lines = sets_found file in
    written_lines (keep_lines (file_refusal_before file) m lines k).refusal m (prune_before m lines k) out

abbrev pub quick_file : List ℕ → ℕ → Outcome
quick_file file room = plan_outcome (quick_lines (file_refusal_before file) (rack_found file) (sets_found file) room)

abbrev pub quick_plan_file : List ℕ → List ℕ → List ℕ
quick_plan_file file plan = quick_plan_lines (file_refusal_before file) (rack_found file) (sets_found file) plan

abbrev pub best_file : List ℕ → ℕ → ℕ → Outcome
best_file file room places =
    plan_outcome (best_lines (file_refusal_before file) (rack_found file) (sets_found file) (sets_found file) room places)

abbrev pub best_plan_file : List ℕ → List ℕ → ℕ → List ℕ
best_plan_file file plan places =
    best_plan_lines (file_refusal_before file) (rack_found file) (sets_found file) (sets_found file) plan places

abbrev pub best_table_file : List ℕ → ℕ → List ℕ → List ℕ
best_table_file file room cells =
    best_table_lines (file_refusal_before file) (rack_found file) (sets_found file) (sets_found file) room cells
