-- What striking the tips that miss a pair goal means for a board.
use Prim.Native.Nat.{ℕ, ◌≤◌}
use mathlib.Core.Path.{◌≡◌, refl, ap, ◌∙◌}
use mathlib.Core.List.{List, ◌++◌}
use native.Mathlib.Omega.{arith}
use lib.ListN.{length, drop}
use Rattle.placements.specs.Good.{GoodLines}
use Rattle.refusal.specs.Told.{Refusal}
use Rattle.refusal.proofs.Laws.{lent_refused, lent_front}
use Rattle.call_refusals.specs.declared.Stage.TheVariants.{Closed}
use Rattle.goal_rules.specs.Goal.{strike}
use Rattle.line_calls.specs.Goal as Lines
use Rattle.line_calls.proofs.PairGoal as laws
use Rattle.board.specs.declared.Board.{Board}
use Rattle.board.specs.Answers.{Answer}
use Rattle.board.specs.Board.{lines_of, quantities_of, state_refusal, answer, with_sets}
use Rattle.board.specs.Goal.{struck_board, goal_of, GoalRule}
use Rattle.board.proofs.Sets.{Full, ready, lines-count}
use Rattle.board.proofs.Replaced.{replaced-refused, replaced-lines, replaced_full, replaced-sound}

module _ (b : Board) (K : ℕ) (full : Full b) where
  abbrev state : Refusal
  state = state_refusal Closed b

  abbrev decided : Refusal
  decided = Lines.goal_of state b.rack (quantities_of b) (lines_of b) K

  abbrev struck : List ℕ
  struck = strike b.rack (quantities_of b) (lines_of b) K

  good : state.number ≡ 0 → GoodLines b.rack (quantities_of b) (lines_of b)
  good z = (ready Closed b full refl z).sound.good

  free : decided.number ≡ 0 → state.number ≡ 0
  free z = (laws.asked-none state (lines_of b) (laws.goal-free state K good z)).0

  module _ (z : decided.number ≡ 0) where
    -- the lines of the board are the struck lines, and it is as full as it was
    pub struck-lines : lines_of (struck_board b K) ≡ struck
    unfolding Lines.struck_sets
    struck-lines = replaced-lines b full decided struck free (laws.goal_good state K good) z

    pub struck_full : Full (struck_board b K)
    unfolding Lines.struck_sets
    struck_full = replaced_full b full decided struck free (laws.goal_good state K good) z

  pub goal-rule : GoalRule b K (goal_of b K)
  unfolding goal_of Lines.struck_sets
  goal-rule =
      let rule = laws.goal-rule state K good in
      record {
        goal = record { runs = rule.runs; exact = λ z. rw (struck-lines z) (rule.exact z); refuses = rule.refuses };
        refused_same = replaced-refused b full decided struck;
        stays_sound = replaced-sound b full decided struck free (laws.goal_good state K good);
        stays_closed = λ z. (ready Closed b full refl (free z)).stage_is;
        same_rack = refl;
        same_count = refl;
        same_quantities = refl;
      }

-- an answer that the definition gives has the rule
pub goal_ruled : (b : Board) (K : ℕ) → Full b → {r : Answer} → r ≡ goal_of b K → GoalRule b K r
goal_ruled b K full same = rw same (goal-rule b K full)

-- what the code answers, from the refusal and the sets for the board's lines
module _ (b : Board) (K : ℕ) (full : Full b) {d : Refusal} (e : d ≡ state_refusal Closed b) (z : d.number ≡ 0)
    {r : Refusal} (f : r ≡ Lines.goal_of d b.rack (quantities_of b) (lines_of b) K) where
  pub goal-answer : {lines : List ℕ} → lines ≡ Lines.struck_sets d b.rack (quantities_of b) (lines_of b) K (lines_of b)
      → answer (with_sets b (lines ++ drop b.count b.sets)) r ≡ goal_of b K
  unfolding goal_of Lines.struck_sets
  goal-answer g =
      let q = ready Closed b full e z in
      let inside : b.count ≤ length b.sets = omega (arith, full.sets_full, q.sound.count_most) in
      let asked = Lines.goal_of d b.rack (quantities_of b) (lines_of b) K in
      rw (f, g, lines-count Closed b full q, lent_front asked b.count (strike b.rack (quantities_of b) (lines_of b) K) b.sets inside, e) refl

  -- after a refusal the board is as it was
  pub goal-refused : (r.number ≡ 0 → ⊥) → answer b r ≡ goal_of b K
  unfolding goal_of Lines.struck_sets
  goal-refused n =
      ap (λ s. answer (with_sets b s) r) (lent_refused f (length (lines_of b)) (strike b.rack (quantities_of b) (lines_of b) K) b.sets n)
      ∙ rw (f, e) refl
