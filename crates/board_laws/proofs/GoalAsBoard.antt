-- A file that reading accepts: a pair goal gives what the board's call and then write give on the board that reading gives.
use Prim.Native.Nat.{ℕ}
use mathlib.Core.Path.{◌≡◌, refl, sym, ap, ap₂, ◌∙◌}
use mathlib.Core.Bool.{Bool, true, false}
use mathlib.Core.List.{List}
use native.Mathlib.Omega.{arith}
use lib.Dec.{ltb}
use lib.ListN.{length}
use Rattle.model.specs.Interval.{C}
use Rattle.placements.specs.Repeated.{repeated}
use Rattle.file_calls.specs.Calls.{file_outcome}
use Rattle.refusal.specs.Told.{Refusal}
use Rattle.refusal.specs.Refusal.{none, when}
use Rattle.refusal.proofs.Laws.{or_next, or_none}
use Rattle.goal_rules.specs.Goal.{strike}
use Rattle.striking.specs.Striking.{goal_refusal}
use Rattle.call_refusals.specs.declared.Stage.TheVariants.{Closed}
use Rattle.line_calls.specs.Lines
use Rattle.line_calls.specs.Goal as Goals
use Rattle.line_calls.proofs.JobFile.{write_stopped}
use Rattle.board.specs.declared.Board.{Board}
use Rattle.board.specs.Answers.{Written}
use Rattle.board.specs.Board.{lines_of, quantities_of, state_refusal, answer}
use Rattle.board.specs.Goal.{struck_board, goal_of}
use Rattle.board.specs.JobFile.{read_of, write_of, write_buffer}
use Rattle.board.proofs.Sets.{state-free}
use Rattle.board.proofs.GoalRule.{struck-lines, struck_full, goal-rule}
use Rattle.file_calls.specs.Outcomes.{Outcome}
use Rattle.file_calls.specs.Goal.{goal_in, goal_file_in}
use Rattle.board_laws.proofs.AsBoard.{of_answer, on_board, full}

abbrev pub of_file : Written → Outcome
of_file w = record { refusal = record { number = w.number; place = w.place }; first = w.bytes; second = 0; third = 0 }

when_whole : (t : Bool) → (when t 34).number ≡ 0 → when t 34 ≡ none
when_whole true z = absurd (omega (arith, z))
when_whole false z = refl

module _ (file : List ℕ) (b : Board) (given : read_of file ≡ answer b none) (K : ℕ) where
  abbrev decided : Refusal
  decided = Goals.goal_of (state_refusal Closed b) b.rack (quantities_of b) (lines_of b) K

  -- a goal that refuses nothing, then write
  module _ (z : (goal_of b K).number ≡ 0) where
    met : decided.number ≡ 0
    unfolding goal_of
    met = z

    met-none : decided ≡ none
    unfolding Goals.goal_of goal_refusal
    met-none =
        let asked = Goals.goal_asked (state_refusal Closed b) (lines_of b) in
        let next = goal_refusal b.rack (quantities_of b) (lines_of b) K in
        let (first, last) = or_none asked next met in
        sym (or_next {d = asked} refl next first refl) ∙ when_whole (ltb (C (repeated (quantities_of b) (lines_of b)) 0 b.rack) K) last

    -- the struck board is sound and closed
    met-state : decided ≡ state_refusal Closed (struck_board b K)
    unfolding goal_of
    met-state =
        let a = struck_board b K in
        let rule = goal-rule b K (full file b given) in
        met-none ∙ sym (state-free Closed a (struck_full b K (full file b given) met) (rule.stays_sound z) (rule.stays_closed z))

    pub goal_as_board : (room : ℕ) → goal_in file K room ≡ of_file (write_of (goal_of b K).board room)
    unfolding goal_in goal_of write_of
    goal_as_board room =
        on_board file b given (λ r m q l. file_outcome (Lines.write_of (Goals.goal_of r m q l K) q (strike m q l K) room))
        ∙ ap₂ (λ r l. file_outcome (Lines.write_of r (quantities_of b) l room)) met-state (sym (struck-lines b K (full file b given) met))

    pub goal-file_as_board : (out : List ℕ) → goal_file_in file K out ≡ write_buffer (goal_of b K).board out
    unfolding goal_file_in goal_of write_buffer
    goal-file_as_board out =
        on_board file b given (λ r m q l. Lines.write_buffer (Goals.goal_of r m q l K) m q (strike m q l K) out)
        ∙ ap₂ (λ r l. Lines.write_buffer r b.rack (quantities_of b) l out) met-state (sym (struck-lines b K (full file b given) met))

  -- a goal that is refused writes nothing
  module _ (h : (goal_of b K).number ≡ 0 → ⊥) (out : List ℕ) where
    stopped : decided.number ≡ 0 → ⊥
    unfolding goal_of
    stopped = h

    abbrev struck : List ℕ
    struck = strike b.rack (quantities_of b) (lines_of b) K

    pub goal-refused_as_board : goal_in file K (length out) ≡ of_answer (goal_of b K)
    unfolding goal_in goal_of
    goal-refused_as_board =
        on_board file b given (λ r m q l. file_outcome (Lines.write_of (Goals.goal_of r m q l K) q (strike m q l K) (length out)))
        ∙ ap file_outcome (sym (write_stopped decided b.rack (quantities_of b) struck out stopped).0)

    pub goal-refused-file : goal_file_in file K out ≡ out
    unfolding goal_file_in
    goal-refused-file =
        on_board file b given (λ r m q l. Lines.write_buffer (Goals.goal_of r m q l K) m q (strike m q l K) out)
        ∙ sym (write_stopped decided b.rack (quantities_of b) struck out stopped).1
