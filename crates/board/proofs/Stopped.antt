-- What a call answers where it is refused before it looks at the lines: the refusal, counts of 0, and what is lent as it was.
use Prim.Native.Nat.{ℕ}
use mathlib.Core.Path.{◌≡◌}
use mathlib.Core.Bool.{false}
use mathlib.Core.List.{List}
use lib.Dec.{eqb}
use borrow.Author.Tests.{ne_eqb}
use Rattle.std.specs.Prelude.{pos, Err}
use Rattle.model.specs.Choice.{Mounted}
use Rattle.refusal.specs.Refusal.{or_else}
use Rattle.refusal.specs.declared.Refused.{Refused}
use Rattle.refusal.specs.Reasons.{reason_number, told_of}
use Rattle.refusal.proofs.Laws.{reason_not_0}
use Rattle.call_refusals.specs.declared.Stage.TheVariants.{Open, Closed}
use Rattle.call_refusals.specs.Calls
use Rattle.call_refusals.specs.Junior as Asked
use Rattle.call_refusals.proofs.Calls.{mounted_earlier}
use Rattle.line_calls.specs.Lines
use Rattle.line_calls.specs.Goal as Struck
use Rattle.line_calls.specs.Junior as Holders
use Rattle.line_calls.specs.Along as AlongLines
use Rattle.line_calls.specs.Exact as ExactLines
use Rattle.panel.specs.Panel
use Rattle.board.specs.declared.Board.{Board}
use Rattle.board.specs.Board.{state_refusal, answer, add_of, close_of}
use Rattle.board.specs.Told.{common_answered, kept_answered, shared_answered, junior_answered, along_answered, exact_answered}
use Rattle.board.specs.Told.{written_answered}
use Rattle.board.specs.Told.{merged_answered, alone_answered}
use Rattle.board.specs.Common.{common_of, keep_of}
use Rattle.board.specs.Sharing.{mounted_refusal, quick_of, quick_buffer, best_of, best_buffer, best_table}
use Rattle.board.specs.Check.{check_of, CheckRule}
use Rattle.board.specs.Goal.{goal_of}
use Rattle.board.specs.Junior.{junior_of, junior_buffer, JuniorRule}
use Rattle.board.specs.Along.{along_of, along_buffer}
use Rattle.board.specs.Exact.{exact_of, exact_buffer, exact_cells}
use Rattle.board.specs.JobFile.{write_of, write_buffer}
use Rattle.board.specs.Panel.{states_refusal, merge_of, alone_of, alone_buffer}

module _ (e : Refused) where
  -- an error refuses
  refuses : eqb (reason_number e.reason) 0 ≡ false
  refuses = ne_eqb (reason_number e.reason) 0 (reason_not_0 e.reason)

  module _ (b : Board) where
    module _ (h : told_of e ≡ state_refusal Open b) where
      pub add_stopped : (s q : ℕ) → answer b (told_of e) ≡ add_of b s q
      unfolding add_of Calls.add_refusal or_else
      add_stopped s q = rw (← h) (simp refuses)

      pub close_stopped : answer b (told_of e) ≡ close_of b
      unfolding close_of
      close_stopped = rw (← h) (simp refuses)

    module _ (h : told_of e ≡ state_refusal Closed b) where
      pub common_stopped : common_answered b (Err e) ≡ common_of b
      unfolding common_of Lines.common_of
      common_stopped = rw (← h) (simp refuses)

      pub keep_stopped : (k : ℕ) → kept_answered b (Err (record { refused = e; margin = pos 0 })) ≡ keep_of b k
      unfolding keep_of Lines.keep_of Lines.sets_kept Calls.keep_refusal or_else
      keep_stopped k = rw (← h) (simp refuses)

      pub check_stopped : (plan : List ℕ) (claim : ℕ) (tab : List ℕ) → answer b (told_of e) ≡ check_of b plan claim tab
      unfolding check_of Lines.check_of Calls.best_refusal Calls.plan_refusal or_else
      check_stopped plan claim tab = rw (← h) (simp refuses)

      pub check_rule : (plan : List ℕ) (claim : ℕ) (tab : List ℕ) → CheckRule b plan claim tab (answer b (told_of e))
      unfolding Calls.best_refusal Calls.plan_refusal or_else
      check_rule plan claim tab = record {
        accepted = λ z. absurd (reason_not_0 e.reason z);
        exact = (rw (← h) (simp refuses (λ z _. absurd (reason_not_0 e.reason z))));
        best = λ z. absurd (reason_not_0 e.reason z);
      }

      pub goal_stopped : (K : ℕ) → answer b (told_of e) ≡ goal_of b K
      unfolding goal_of Struck.goal_of Struck.goal_asked Struck.struck_sets or_else
      goal_stopped K = rw (← h) (simp refuses)

      pub write_stopped : (room : ℕ) → written_answered b (Err e) ≡ write_of b room
      unfolding write_of Lines.write_of Calls.write_refusal or_else
      write_stopped room = rw (← h) (simp refuses)

      pub write_same : (out : List ℕ) → out ≡ write_buffer b out
      unfolding write_buffer Lines.write_buffer Calls.write_refusal or_else
      write_same out = rw (← h) (simp refuses)

      pub junior_stopped : (room : ℕ) → junior_answered b (Err e) ≡ junior_of b room
      unfolding junior_of Holders.junior_of Holders.junior_refusal Asked.junior_refusal Calls.plan_refusal or_else
      junior_stopped room = rw (← h) (simp refuses)

      pub junior_same : (plan : List ℕ) → plan ≡ junior_buffer b plan
      unfolding junior_buffer Holders.junior_buffer Holders.junior_refusal Asked.junior_refusal Calls.plan_refusal or_else
      junior_same plan = rw (← h) (simp refuses)

      pub junior_rule : (room : ℕ) (plan : List ℕ) → JuniorRule b room plan (junior_answered b (Err e))
      unfolding Asked.junior_refusal Calls.plan_refusal or_else
      junior_rule room plan = record {
        plan = λ z. absurd (reason_not_0 e.reason z);
        tips = λ z. absurd (reason_not_0 e.reason z);
        most = λ z. absurd (reason_not_0 e.reason z);
        lowest = λ z. absurd (reason_not_0 e.reason z);
        refused = (rw (← h) (simp refuses (λ z. absurd (reason_not_0 e.reason z))));
      }

      -- quick and best ask the state first
      pub mounted_state : (mounted : Mounted) → told_of e ≡ mounted_refusal b mounted
      mounted_state mounted = rw (← h) (mounted_earlier (told_of e) b.rack mounted (reason_not_0 e.reason))

    module _ (mounted : Mounted) (h : told_of e ≡ mounted_refusal b mounted) where
      pub quick_stopped : (room : ℕ) → shared_answered b (Err e) ≡ quick_of b mounted room
      unfolding quick_of Lines.quick_of Calls.plan_refusal or_else
      quick_stopped room = rw (← h) (simp refuses)

      pub quick_same : (plan : List ℕ) → plan ≡ quick_buffer b mounted plan
      unfolding quick_buffer Lines.quick_buffer Calls.plan_refusal or_else
      quick_same plan = rw (← h) (simp refuses)

      pub along_stopped : (room : ℕ) → along_answered b (Err e) ≡ along_of b mounted room
      unfolding along_of AlongLines.along_of Calls.plan_refusal or_else
      along_stopped room = rw (← h) (simp refuses)

      pub along_same : (plan : List ℕ) → plan ≡ along_buffer b mounted plan
      unfolding along_buffer AlongLines.along_buffer Calls.plan_refusal or_else
      along_same plan = rw (← h) (simp refuses)

      pub exact_stopped : (price room places : ℕ) → exact_answered b (Err e) ≡ exact_of b mounted price room places
      unfolding exact_of ExactLines.exact_of ExactLines.exact_refusal Calls.plan_refusal or_else
      exact_stopped price room places = rw (← h) (simp refuses)

      pub exact_same : (price : ℕ) (plan : List ℕ) (places : ℕ) → plan ≡ exact_buffer b mounted price plan places
      unfolding exact_buffer ExactLines.exact_buffer ExactLines.exact_refusal Calls.plan_refusal or_else
      exact_same price plan places = rw (← h) (simp refuses)

      pub cells_same : (price room : ℕ) (cells : List ℕ) → cells ≡ exact_cells b mounted price room cells
      unfolding exact_cells ExactLines.exact_cells ExactLines.exact_refusal Calls.plan_refusal or_else
      cells_same price room cells = rw (← h) (simp refuses)

      pub best_stopped : (room places : ℕ) → shared_answered b (Err e) ≡ best_of b mounted room places
      unfolding best_of Lines.best_of Calls.best_refusal Calls.plan_refusal or_else
      best_stopped room places = rw (← h) (simp refuses)

      pub best_same : (plan : List ℕ) (places : ℕ) → plan ≡ best_buffer b mounted plan places
      unfolding best_buffer Lines.best_buffer Calls.best_refusal Calls.plan_refusal or_else
      best_same plan places = rw (← h) (simp refuses)

      pub table_same : (room : ℕ) (cells : List ℕ) → cells ≡ best_table b mounted room cells
      unfolding best_table Lines.best_table Calls.best_refusal Calls.plan_refusal or_else
      table_same room cells = rw (← h) (simp refuses)

  -- two boards: the states of both
  module _ (a b : Board) (h : told_of e ≡ states_refusal a b) where
    pub merge_stopped : merged_answered a b (Err e) ≡ merge_of a b
    unfolding merge_of Panel.merge_of Panel.merge_refusal or_else
    merge_stopped = rw (← h) (simp refuses)

    pub alone_stopped : (room : ℕ) → alone_answered a b (Err e) ≡ alone_of a b room
    unfolding alone_of Panel.alone_of Calls.plan_refusal or_else
    alone_stopped room = rw (← h) (simp refuses)

    pub alone_same : (plan : List ℕ) → plan ≡ alone_buffer a b plan
    unfolding alone_buffer Panel.alone_buffer Calls.plan_refusal or_else
    alone_same plan = rw (← h) (simp refuses)
