-- What the calls on a board refuse is what their cases tell.
use Prim.Native.Nat.{ℕ, ◌+◌}
use mathlib.Core.Path.{◌≡◌, refl, sym, subst}
use mathlib.Core.Bool.{Bool, true, false, not, cond}
use mathlib.Core.Logic.{◌↔◌}
use mathlib.Core.List.{List, ◌++◌}
use lib.Dec.{T}
use lib.IntN.{ℤ}
use lib.ListN.{length}
use Rattle.std.specs.Prelude.{Result, Ok, Err}
use Rattle.model.specs.Choice.{Mounted}
use Rattle.model.specs.Plan.{rack_ok}
use Rattle.placements.specs.Repeated.{total}
use Rattle.placements.specs.Good.{GoodLines}
use Rattle.job.specs.Job.{read_refusal}
use Rattle.along.specs.declared.AlongCounts.{AlongCounts}
use Rattle.common_tip.specs.declared.Common.{Common as Tips}
use Rattle.exact.specs.declared.Shared.{Shared}
use Rattle.junior.specs.declared.Found.{Found}
use Rattle.refusal.specs.Told.{Refusal}
use Rattle.refusal.specs.Refusal.{none, refuse}
use Rattle.refusal.specs.Reasons.{refusal_of, unkept_of}
use Rattle.refusal.specs.declared.Refused.{Refused}
use Rattle.refusal.specs.declared.Unkept.{Unkept}
use Rattle.refusal.specs.declared.Reason.TheVariants.{RackSize}
use Rattle.cases.specs.Cases.{Case, Told, Tells}
use Rattle.cases.proofs.Laws.{told_or, told_when, told_answer}
use Rattle.call_refusals.specs.declared.Stage.{Stage}
use Rattle.call_refusals.specs.declared.Stage.TheVariants.{Open, Closed}
use Rattle.call_refusals.proofs.Calls.{mounted_none}
use Rattle.line_calls.specs.Lines
use Rattle.line_calls.specs.Junior as JuniorLines
use Rattle.line_calls.specs.Along as AlongLines
use Rattle.line_calls.specs.Exact as ExactLines
use Rattle.panel.specs.Panel as Both
use Rattle.panel.specs.declared.AlonePairs.{AlonePairs}
use Rattle.call_cases.specs.State.{RackOut}
use Rattle.call_cases.specs.Calls.{mounted_cases}
use Rattle.call_cases.proofs.Tests.{size_iff}
use Rattle.call_cases.proofs.State
use Rattle.call_cases.proofs.Calls as Of
use Rattle.call_cases.proofs.Reading
use Rattle.board.specs.declared.Board.{Board}
use Rattle.board.specs.Answers.{Answer, Merged}
use Rattle.board.specs.Told.{answered, given, common_answered, kept_answered, shared_answered, junior_answered}
use Rattle.board.specs.Told.{along_answered, exact_answered, written_answered, merged_answered, alone_answered}
use Rattle.board.specs.Board.{lines_of, quantities_of, state_refusal, add_refusal, answer, empty_board, open_of, with_line, add_of, closed, close_of}
use Rattle.board.specs.Common.{common_of, keep_of}
use Rattle.board.specs.Goal.{goal_of}
use Rattle.board.specs.Sharing.{mounted_refusal, quick_of, best_of}
use Rattle.board.specs.Check.{check_of}
use Rattle.board.specs.Junior.{junior_of}
use Rattle.board.specs.Along.{along_of}
use Rattle.board.specs.Exact.{exact_of}
use Rattle.board.specs.JobFile.{board_in, read_of, write_of}
use Rattle.board.specs.Panel.{states_refusal, merge_refusal, panel_of, merged, merge_of, alone_of}
use Rattle.board.specs.Cases.{open_cases, state_cases, add_cases, close_cases, common_cases, keep_cases, goal_cases, quick_cases, best_cases}
use Rattle.board.specs.Cases.{along_cases, exact_cases, check_cases, junior_cases, read_cases, write_cases, states_cases, merge_cases, alone_cases}
use Rattle.board.proofs.Sets.{Full, ready, same_size}

-- the refusal that an answer tells
abbrev refusal_in : Answer → Refusal
refusal_in r = record { number = r.number; place = r.place }

-- a call that gives a value tells no refusal
module _ (cs : List Case) where
  of_given : (x : Result Board Refused) → Told cs (refusal_in (given x)) → Told cs (refusal_of x)
  of_given (Ok b) t = t
  of_given (Err e) t = t

  of_common : (b : Board) (x : Result Tips Refused) → Tells cs (common_answered b x).number (common_answered b x).place → Told cs (refusal_of x)
  of_common b (Ok c) t = t
  of_common b (Err e) t = t

  of_junior : (b : Board) (x : Result Found Refused) → Tells cs (junior_answered b x).number (junior_answered b x).place → Told cs (refusal_of x)
  of_junior b (Ok f) t = t
  of_junior b (Err e) t = t

  of_along : (b : Board) (x : Result AlongCounts Refused) → Tells cs (along_answered b x).number (along_answered b x).place → Told cs (refusal_of x)
  of_along b (Ok c) t = t
  of_along b (Err e) t = t

  of_exact : (b : Board) (x : Result Shared Refused) → Tells cs (exact_answered b x).number (exact_answered b x).place → Told cs (refusal_of x)
  of_exact b (Ok c) t = t
  of_exact b (Err e) t = t

  of_merged : (a b : Board) (x : Result Board Refused)
      → Tells cs (merged_answered a b x).number (merged_answered a b x).place → Told cs (refusal_of x)
  of_merged a b (Ok p) t = t
  of_merged a b (Err e) t = t

  of_alone : (a b : Board) (x : Result AlonePairs Refused)
      → Tells cs (alone_answered a b x).number (alone_answered a b x).place → Told cs (refusal_of x)
  of_alone a b (Ok p) t = t
  of_alone a b (Err e) t = t

pub open_told : (m : ℕ) (x : Result Board Refused) → given x ≡ open_of m → Told (open_cases m) (refusal_of x)
unfolding open_of
open_told m x e =
    of_given (open_cases m) x (subst (λ r. Told (open_cases m) (refusal_in r)) (sym e) (by (rack_ok m) (size_iff m)))
  where
    by : (b : Bool) → T (not b) ↔ RackOut m
        → Told (open_cases m) (refusal_in (cond b (answer (empty_board m) none) (answer (empty_board 1) (refuse 1))))
    by true g = told_when RackSize false g
    by false g = told_when RackSize true g

pub read_told : (file : List ℕ) (x : Result Board Refused) → given x ≡ read_of file → Told (read_cases file) (refusal_of x)
unfolding read_of
read_told file x e =
    let refusal = read_refusal file in
    of_given (read_cases file) x (subst (λ r. Told (read_cases file) (refusal_in r)) (sym e)
    (told_answer (read_cases file) refusal (Reading.read_told file) refusal_in
    (answer (board_in file) none) (answer (empty_board 1) refusal) refl refl))

module _ (b : Board) (full : Full b) where
  state_told : (asked : Stage) → Told (state_cases asked b) (state_refusal asked b)
  state_told asked = State.state_told asked b.rack b.stage b.count b.quantities b.sets (same_size b full)

  good : (state_refusal Closed b).number ≡ 0 → GoodLines b.rack (quantities_of b) (lines_of b)
  good z = (ready Closed b full refl z).sound.good

  -- the cases of a closed board, then those of the call
  abbrev before : Told (state_cases Closed b) (state_refusal Closed b)
  before = state_told Closed

  -- where the board stays, or has one more line, or is closed: the answer tells the refusal of the result
  module _ {A : Type 0} {left : Board} (x : Result A Refused) where
    pub add_told : (s q : ℕ) → answered left x ≡ add_of b s q → Told (add_cases b s q) (refusal_of x)
    unfolding add_of
    add_told s q e =
        let told = Of.add_told (state_refusal Open b) (state_cases Open b) (state_told Open) b.rack b.count (total (quantities_of b)) s q in
        subst (λ r. Told (add_cases b s q) (refusal_in r)) (sym e)
        (told_answer (add_cases b s q) (add_refusal b s q) told refusal_in (answer (with_line b s q) none) (answer b (add_refusal b s q)) refl refl)

    pub close_told : answered left x ≡ close_of b → Told (close_cases b) (refusal_of x)
    unfolding close_of
    close_told e =
        let refusal = state_refusal Open b in
        subst (λ r. Told (close_cases b) (refusal_in r)) (sym e)
        (told_answer (close_cases b) refusal (state_told Open) refusal_in (answer (closed b) none) (answer b refusal) refl refl)

    pub goal_told : (K : ℕ) → answered left x ≡ goal_of b K → Told (goal_cases b K) (refusal_of x)
    unfolding goal_of
    goal_told K e =
        subst (λ r. Told (goal_cases b K) (refusal_in r)) (sym e)
        (Of.goal_told (state_refusal Closed b) (state_cases Closed b) before good K)

    pub check_told : (plan : List ℕ) (claim : ℕ) (tab : List ℕ) → answered left x ≡ check_of b plan claim tab
        → Told (check_cases b plan claim tab) (refusal_of x)
    unfolding check_of
    check_told plan claim tab e =
        subst (λ r. Told (check_cases b plan claim tab) (refusal_in r)) (sym e)
        (Of.check_told (state_refusal Closed b) (state_cases Closed b) before good plan claim tab)

  pub common_told : (x : Result Tips Refused) → common_answered b x ≡ common_of b → Told (common_cases b) (refusal_of x)
  unfolding common_of Lines.common_of
  common_told x e = of_common (common_cases b) b x (subst (λ r. Tells (common_cases b) r.number r.place) (sym e) before)

  pub keep_told : {left : Board} (k : ℕ) (x : Result ℤ Unkept) → kept_answered left x ≡ keep_of b k → Told (keep_cases b k) (unkept_of x)
  unfolding keep_of Lines.keep_of
  keep_told k x e =
      subst (λ r. Tells (keep_cases b k) r.number r.place) (sym e)
      (Of.keep_told (state_refusal Closed b) (state_cases Closed b) before good k)

  pub junior_told : (room : ℕ) (x : Result Found Refused) → junior_answered b x ≡ junior_of b room → Told (junior_cases b room) (refusal_of x)
  unfolding junior_of JuniorLines.junior_of
  junior_told room x e =
      of_junior (junior_cases b room) b x
      (subst (λ r. Tells (junior_cases b room) r.number r.place) (sym e)
      (Of.junior_told (state_refusal Closed b) (state_cases Closed b) before good room))

  pub write_told : (room : ℕ) (x : Result ℕ Refused) → written_answered b x ≡ write_of b room → Told (write_cases b room) (refusal_of x)
  unfolding write_of Lines.write_of
  write_told room x e =
      subst (λ r. Tells (write_cases b room) r.number r.place) (sym e)
      (Of.write_told (state_refusal Closed b) (state_cases Closed b) before (quantities_of b) (lines_of b) room)

  -- with a tip mounted
  module _ (mounted : Mounted) where
    mounted_told : Told (state_cases Closed b ++ mounted_cases b.rack mounted) (mounted_refusal b mounted)
    mounted_told = Of.mounted_told (state_refusal Closed b) (state_cases Closed b) before b.rack mounted

    pub quick_told : (room : ℕ) (x : Result ℕ Refused) → shared_answered b x ≡ quick_of b mounted room
        → Told (quick_cases b mounted room) (refusal_of x)
    unfolding quick_of Lines.quick_of
    quick_told room x e =
        subst (λ r. Tells (quick_cases b mounted room) r.number r.place) (sym e)
        (Of.plan_told (mounted_refusal b mounted) _ mounted_told (length (lines_of b)) room)

    pub along_told : (room : ℕ) (x : Result AlongCounts Refused) → along_answered b x ≡ along_of b mounted room
        → Told (along_cases b mounted room) (refusal_of x)
    unfolding along_of AlongLines.along_of
    along_told room x e =
        of_along (along_cases b mounted room) b x
        (subst (λ r. Tells (along_cases b mounted room) r.number r.place) (sym e)
        (Of.plan_told (mounted_refusal b mounted) _ mounted_told (length (lines_of b)) room))

    pub exact_told : (price room places : ℕ) (x : Result Shared Refused) → exact_answered b x ≡ exact_of b mounted price room places
        → Told (exact_cases b mounted room places) (refusal_of x)
    unfolding exact_of ExactLines.exact_of
    exact_told price room places x e =
        of_exact (exact_cases b mounted room places) b x
        (subst (λ r. Tells (exact_cases b mounted room places) r.number r.place) (sym e)
        (Of.exact_told (mounted_refusal b mounted) _ mounted_told b.rack (lines_of b) room places))

    pub best_told : (room places : ℕ) (x : Result ℕ Refused) → shared_answered b x ≡ best_of b mounted room places
        → Told (best_cases b mounted room places) (refusal_of x)
    unfolding best_of Lines.best_of
    best_told room places x e =
        subst (λ r. Tells (best_cases b mounted room places) r.number r.place) (sym e)
        (Of.best_told (mounted_refusal b mounted) _ mounted_told
        (λ z. good ((mounted_none (state_refusal Closed b) b.rack mounted z).0)) room places)

-- of two boards
module _ (a b : Board) (first : Full a) (second : Full b) where
  states_told : Told (states_cases a b) (states_refusal a b)
  states_told = told_or (state_refusal Closed a) (state_refusal Closed b) _ _ (state_told a first Closed) (λ _. state_told b second Closed)

  pub merge_told : (x : Result Board Refused) → merged_answered a b x ≡ merge_of a b → Told (merge_cases a b) (refusal_of x)
  unfolding merge_of Both.merge_of
  merge_told x e =
      let tells : Merged → Refusal = λ r. record { number = r.number; place = r.place } in
      let lines = length (lines_of a) + length (lines_of b) in
      let told = Of.merge_told (states_refusal a b) _ states_told a.rack b.rack lines (total (quantities_of a) + total (quantities_of b)) in
      of_merged (merge_cases a b) a b x (subst (λ r. Told (merge_cases a b) (tells r)) (sym e)
      (told_answer (merge_cases a b) (merge_refusal a b) told tells
      (merged a b (panel_of a b) none) (merged a b (empty_board 1) (merge_refusal a b)) refl refl))

  pub alone_told : (room : ℕ) (x : Result AlonePairs Refused) → alone_answered a b x ≡ alone_of a b room → Told (alone_cases a b room) (refusal_of x)
  unfolding alone_of Both.alone_of
  alone_told room x e =
      of_alone (alone_cases a b room) a b x (subst (λ r. Tells (alone_cases a b room) r.number r.place) (sym e)
      (Of.plan_told (states_refusal a b) _ states_told (length (lines_of a) + length (lines_of b)) room))
