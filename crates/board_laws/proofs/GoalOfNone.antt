-- A goal of no pairs is met by every plan: nothing is refused but what is refused before, and no tip is struck.
use mathlib.Core.Path.{◌≡◌, refl, sym, ap, ap₂, ◌∙◌}
use mathlib.Core.List.{◌++◌}
use native.Mathlib.Omega.{arith}
use lib.ListN.{length, drop, take-append-drop}
use borrow.Author.Tests.{le-ltb}
use Rattle.model.specs.Interval.{C}
use Rattle.placements.specs.Repeated.{repeated}
use Rattle.refusal.specs.Refusal.{none}
use Rattle.refusal.proofs.Laws.{or_next}
use Rattle.call_refusals.specs.declared.Stage.TheVariants.{Closed}
use Rattle.goal_rules.specs.Goal.{strike}
use Rattle.goal_rules.proofs.Strike.{goal_of_none}
use Rattle.striking.specs.Striking.{goal_refusal}
use Rattle.line_calls.specs.Goal as Lines
use Rattle.line_calls.proofs.PairGoal.{asked-none}
use Rattle.board.specs.declared.Board.{Board}
use Rattle.board.specs.Board.{lines_of, quantities_of, state_refusal, answer, with_sets}
use Rattle.board.specs.Goal.{goal_of, asked_before}
use Rattle.board.proofs.Sets.{Full, ReadyBoard, ready, lines-count}

module _ (b : Board) (full : Full b) (z : (asked_before b).number ≡ 0) where
  was : ReadyBoard Closed b
  was = ready Closed b full refl (asked-none (state_refusal Closed b) (lines_of b) z).0

  decided : Lines.goal_of (state_refusal Closed b) b.rack (quantities_of b) (lines_of b) 0 ≡ none
  unfolding Lines.goal_of goal_refusal
  decided =
      let next = goal_refusal b.rack (quantities_of b) (lines_of b) 0 in
      let met : none ≡ next = rw (le-ltb (C (repeated (quantities_of b) (lines_of b)) 0 b.rack) 0 (omega arith)) refl in
      sym (or_next {d = asked_before b} refl next z met)

  unstruck : strike b.rack (quantities_of b) (lines_of b) 0 ++ drop (length (lines_of b)) b.sets ≡ b.sets
  unstruck =
      ap₂ (λ l n. l ++ drop n b.sets) (goal_of_none b.rack (quantities_of b) was.sound.good.domains) (lines-count Closed b full was)
      ∙ take-append-drop b.count b.sets

  -- THE BOARD IS AS IT WAS
  pub goal_0_keeps : goal_of b 0 ≡ answer b none
  unfolding goal_of Lines.struck_sets
  goal_0_keeps = rw decided (ap (λ s. answer (with_sets b s) none) unstruck)
