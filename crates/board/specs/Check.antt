-- What the check of a plan, a claimed pair count and a table from other software answers, and what it means.
use Rattle.std.specs.Prelude.{ℕ, ◌≡◌, List, length}
use Rattle.refusal.specs.Told.{Refusal}
use Rattle.refusal.specs.Refusal.{none}
use Rattle.call_refusals.specs.declared.Stage.TheVariants.{Closed}
use Rattle.call_refusals.specs.Calls
use Rattle.line_calls.specs.Lines
use Rattle.line_calls.specs.Rules
use Rattle.board.specs.declared.Board.{Board}
use Rattle.board.specs.Answers.{Answer}
use Rattle.board.specs.Answers.{Shared}
use Rattle.board.specs.Board.{lines_of, quantities_of, state_refusal, answer}

-- the check, with the board as it was
unfoldable pub check_of : Board → List ℕ → ℕ → List ℕ → Answer
check_of b plan claim tab = answer b (Lines.check_of (state_refusal Closed b) b.rack (quantities_of b) (lines_of b) plan claim tab)

-- what is refused before the plan, the claim and the table are looked at: 21, 27, 28, 23, 4, 5 or 25
abbrev pub asked_before : Board → List ℕ → List ℕ → Refusal
asked_before b plan tab = Calls.best_refusal (state_refusal Closed b) b.rack (lines_of b) (length plan) (length tab)

-- accepted exactly where the plan, the claim and the table are what they say, and then the plan is best
abbrev pub CheckRule : Board → List ℕ → ℕ → List ℕ → Answer → Type 0
CheckRule b plan claim tab r =
    Rules.CheckRule (asked_before b plan tab).number b.rack (quantities_of b) (lines_of b) plan claim tab r.number

-- the check accepts a plan that best sharing hands out, with its pairs as the claim and its table
abbrev pub CheckAccepts : Board → List ℕ → List ℕ → Shared → Type 0
CheckAccepts b plan tab r = r.number ≡ 0 → check_of b plan r.pairs tab ≡ answer b none
