-- The answer of a call on a board, by its result.
use Rattle.std.specs.Prelude.{ℕ, ℤ, Result, Ok, Err}
use Rattle.refusal.specs.Refusal.{none}
use Rattle.refusal.specs.declared.Refused.{Refused}
use Rattle.refusal.specs.declared.Unkept.{Unkept}
use Rattle.refusal.specs.Reasons.{told_of, refusal_of}
use Rattle.along.specs.declared.AlongCounts.{AlongCounts}
use Rattle.common_tip.specs.declared.Common.{Common as Tips}
use Rattle.exact.specs.declared.Shared.{Shared as Priced}
use Rattle.junior.specs.declared.Found.{Found}
use Rattle.panel.specs.declared.AlonePairs.{AlonePairs}
use Rattle.panel.specs.Answers.{alone_told}
use Rattle.line_calls.specs.Answers as Lines
use Rattle.board.specs.declared.Board.{Board}
use Rattle.board.specs.Answers.{Answer, Common, Kept, Shared, Junior, Along, Exact, Written, Merged, Alone}
use Rattle.board.specs.Board.{answer, empty_board}
use Rattle.board.specs.Sharing.{shared}
use Rattle.board.specs.Junior.{planned}
use Rattle.board.specs.Along.{walked}
use Rattle.board.specs.Exact.{priced}
use Rattle.board.specs.Panel.{merged}

-- of a call that leaves this board and gives nothing else
abbrev pub answered : {A : Type 0} → Board → Result A Refused → Answer
answered b r = answer b (refusal_of r)

-- of a call that gives a board: where it refuses, an open board of rack 1 without lines stands for it
abbrev pub given : Result Board Refused → Answer
given (Ok b) = answer b none
given (Err e) = answer (empty_board 1) (told_of e)

abbrev pub common_answered : Board → Result Tips Refused → Common
common_answered b r =
    let a = Lines.common_told r in
    record { board = b; number = a.refusal.number; place = a.refusal.place; top = a.top; off = a.off; tips = a.tips }

abbrev pub kept_answered : Board → Result ℤ Unkept → Kept
kept_answered b r =
    let a = Lines.keep_told r in
    record { board = b; number = a.refusal.number; place = a.refusal.place; margin = a.margin }

abbrev pub shared_answered : Board → Result ℕ Refused → Shared
shared_answered b r = shared b (Lines.plan_told r)

abbrev pub junior_answered : Board → Result Found Refused → Junior
junior_answered b r = planned b (Lines.junior_told r)

abbrev pub along_answered : Board → Result AlongCounts Refused → Along
along_answered b r = walked b (Lines.along_told r)

abbrev pub exact_answered : Board → Result Priced Refused → Exact
exact_answered b r = priced b (Lines.exact_told r)

abbrev pub written_answered : Board → Result ℕ Refused → Written
written_answered b r =
    let a = Lines.file_told r in
    record { board = b; number = a.refusal.number; place = a.refusal.place; bytes = a.bytes }

abbrev pub merged_answered : Board → Board → Result Board Refused → Merged
merged_answered a b (Ok panel) = merged a b panel none
merged_answered a b (Err e) = merged a b (empty_board 1) (told_of e)

abbrev pub alone_answered : Board → Board → Result AlonePairs Refused → Alone
alone_answered a b r =
    let x = alone_told r in
    record {
      first = a;
      second = b;
      number = x.refusal.number;
      place = x.refusal.place;
      first_pairs = x.first_pairs;
      second_pairs = x.second_pairs;
    }
