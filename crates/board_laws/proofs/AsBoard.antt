-- A file that reading accepts: each call answers what the board's call answers on the board that reading gives.
use Prim.Native.Nat.{ℕ}
use mathlib.Core.Path.{◌≡◌, refl, sym, ap, ap₂, ◌∙◌}
use mathlib.Core.Bool.{Bool, true, false, cond}
use mathlib.Core.List.{List}
use native.Mathlib.Omega.{arith}
use lib.Dec.{eqb}
use lib.IntN.{ℤ}
use Rattle.model.specs.Choice.{Mounted}
use Rattle.model.specs.CommonTip.{margin}
use Rattle.placements.specs.Repeated.{repeated}
use Rattle.placements.specs.Keep.{prune_q}
use Rattle.refusal.specs.Told.{Refusal}
use Rattle.refusal.specs.Refusal.{none, refuse, or_else, when}
use Rattle.refusal.proofs.Laws.{accepted, by_number}
use Rattle.job.specs.Job.{rack_in, sets_in, quantities_in, read_refusal}
use Rattle.job.proofs.Reading.{read_none}
use Rattle.call_refusals.specs.declared.Stage.TheVariants.{Closed}
use Rattle.call_refusals.specs.Calls.{is_negative, keep_refusal, mounted_refusal, write_refusal}
use Rattle.line_calls.specs.Lines
use Rattle.board.specs.declared.Board.{Board}
use Rattle.board.specs.Answers.{Answer}
use Rattle.board.specs.Answers.{Common}
use Rattle.board.specs.Answers.{Kept}
use Rattle.board.specs.Answers.{Shared}
use Rattle.board.specs.Answers.{Written}
use Rattle.board.specs.Board.{lines_of, quantities_of, state_refusal, answer}
use Rattle.board.specs.Common.{common_of, kept_board, keep_of}
use Rattle.board.specs.Sharing.{quick_of, quick_buffer, best_of, best_buffer, best_table}
use Rattle.board.specs.Check.{check_of}
use Rattle.board.specs.JobFile.{board_in, read_of, write_of, write_buffer}
use Rattle.board.proofs.Sets.{Full, state-free}
use Rattle.board.proofs.JobFileRule.{full_in, lines-in, quantities-in, state_in}
use Rattle.board.proofs.KeepRule.{kept-lines, kept_full, keep-rule}
use Rattle.file_calls.specs.Outcomes.{Outcome, twos_complement}
use Rattle.file_calls.specs.Calls.{common_outcome, plan_outcome, keep_outcome, check_outcome, check_in}
use Rattle.file_calls.specs.Calls.{read_in, common_in, quick_in, quick_plan_in, best_in, best_plan_in, best_table_in, keep_in, keep_file_in}

-- ---- the answers of the board's calls, as outcomes

abbrev pub of_common : Common → Outcome
of_common a = record { refusal = record { number = a.number; place = a.place }; first = a.top; second = a.off; third = a.tips }

abbrev pub of_shared : Shared → Outcome
of_shared a = record { refusal = record { number = a.number; place = a.place }; first = a.pairs; second = 0; third = 0 }

abbrev pub of_answer : Answer → Outcome
of_answer a = record { refusal = record { number = a.number; place = a.place }; first = 0; second = 0; third = 0 }

abbrev pub of_kept : Kept → Outcome
of_kept a = record { refusal = record { number = a.number; place = a.place }; first = twos_complement a.margin; second = 0; third = 0 }

abbrev pub of_written : Kept → Written → Outcome
of_written kept w = record {
  refusal = record { number = w.number; place = w.place };
  first = cond (eqb w.number 11) 0 (twos_complement kept.margin);
  second = w.bytes;
  third = 0;
}

-- ---- the board that reading gives

-- keep refuses nothing, so there is no place
keep_whole : (y : ℤ) → (keep_refusal none y).number ≡ 0 → keep_refusal none y ≡ none
unfolding keep_refusal or_else
keep_whole y = by (is_negative y)
  where
    by : (t : Bool) → (when t 26).number ≡ 0 → when t 26 ≡ none
    by true z = absurd (omega (arith, z))
    by false z = refl

-- keep that refuses gives 26
keep_26 : (y : ℤ) → ((keep_refusal none y).number ≡ 0 → ⊥) → keep_refusal none y ≡ refuse 26
unfolding keep_refusal or_else
keep_26 y = by (is_negative y)
  where
    by : (t : Bool) → ((when t 26).number ≡ 0 → ⊥) → when t 26 ≡ refuse 26
    by true h = refl
    by false h = absurd (h refl)

module _ (file : List ℕ) (b : Board) (given : read_of file ≡ answer b none) where
  free : (read_refusal file).number ≡ 0
  unfolding read_of
  free = by_number (read_refusal file) (λ (x : Answer). x.number) _ _ refl (ap (λ a. a.number) given)

  board_is : b ≡ board_in file
  unfolding read_of
  board_is = ap (λ a. a.board) (sym given ∙ accepted _ _ {d = read_refusal file} refl free)

  pub state_is : state_refusal Closed b ≡ none
  state_is = ap (state_refusal Closed) board_is ∙ state_in file free

  lines_are : lines_of b ≡ sets_in file
  lines_are = ap lines_of board_is ∙ lines-in file

  quantities_are : quantities_of b ≡ quantities_in file
  quantities_are = ap quantities_of board_is ∙ quantities-in file

  -- what is asked of the file is what is asked of the board
  pub on_board : {A : Type 0} (f : Refusal → ℕ → List ℕ → List ℕ → A)
      → f (read_refusal file) (rack_in file) (quantities_in file) (sets_in file) ≡ f (state_refusal Closed b) b.rack (quantities_of b) (lines_of b)
  on_board f =
      ap₂ (λ r m. f r m (quantities_in file) (sets_in file)) (read_none file free ∙ sym state_is) (sym (ap (λ a. a.rack) board_is))
      ∙ ap₂ (f (state_refusal Closed b) b.rack) (sym quantities_are) (sym lines_are)

  pub read_as_board : read_in file ≡ record { refusal = none; first = b.rack; second = b.count; third = 0 }
  unfolding read_in
  read_as_board = rw (board_is, read_none file free) refl

  pub common_as_board : common_in file ≡ of_common (common_of b)
  unfolding common_in common_of
  common_as_board = on_board (λ r m q l. common_outcome (Lines.common_of r m q l))

  pub quick_as_board : (mounted : Mounted) (room : ℕ) → quick_in file mounted room ≡ of_shared (quick_of b mounted room)
  unfolding quick_in quick_of
  quick_as_board mounted room = on_board (λ r m q l. plan_outcome (Lines.quick_of (mounted_refusal r m mounted) m mounted q l room))

  pub quick_plan_as_board : (mounted : Mounted) (plan : List ℕ) → quick_plan_in file mounted plan ≡ quick_buffer b mounted plan
  unfolding quick_plan_in quick_buffer
  quick_plan_as_board mounted plan = on_board (λ r m q l. Lines.quick_buffer (mounted_refusal r m mounted) m mounted q l plan)

  pub best_as_board : (mounted : Mounted) (room places : ℕ) → best_in file mounted room places ≡ of_shared (best_of b mounted room places)
  unfolding best_in best_of
  best_as_board mounted room places = on_board (λ r m q l. plan_outcome (Lines.best_of (mounted_refusal r m mounted) m q l room places))

  pub best_plan_as_board : (mounted : Mounted) (plan : List ℕ) (places : ℕ) → best_plan_in
      file mounted plan places ≡ best_buffer b mounted plan places
  unfolding best_plan_in best_buffer
  best_plan_as_board mounted plan places = on_board (λ r m q l. Lines.best_buffer (mounted_refusal r m mounted) m mounted q l plan places)

  pub best-table_as_board : (mounted : Mounted) (room : ℕ) (cells : List ℕ) → best_table_in file mounted room cells ≡ best_table b mounted room cells
  unfolding best_table_in best_table
  best-table_as_board mounted room cells = on_board (λ r m q l. Lines.best_table (mounted_refusal r m mounted) m q l room cells)

  pub check_as_board : (plan : List ℕ) (claim : ℕ) (tab : List ℕ) → check_in file plan claim tab ≡ of_answer (check_of b plan claim tab)
  unfolding check_in check_of
  check_as_board plan claim tab = on_board (λ r m q l. check_outcome (Lines.check_of r m q l plan claim tab))

  -- the arrays of the board have a place for each line
  pub full : Full b
  full = rw board_is (full_in file free)

  abbrev left : ℕ → ℤ
  left = margin b.rack (repeated (quantities_of b) (lines_of b))

  -- keep that refuses nothing, then write
  module _ (k : ℕ) (z : (keep_of b k).number ≡ 0) where
    abbrev kept : Refusal
    kept = keep_refusal (state_refusal Closed b) (left k)

    kept_free : kept.number ≡ 0
    unfolding keep_of Lines.keep_of
    kept_free = z

    kept-none : kept ≡ none
    kept-none =
        let e = ap (λ r. keep_refusal r (left k)) state_is in
        e ∙ keep_whole (left k) (ap (λ r. r.number) (sym e) ∙ kept_free)

    -- the kept board is sound and closed, and its lines are the pruned ones
    kept-state : kept ≡ state_refusal Closed (kept_board b k)
    unfolding keep_of Lines.keep_of
    kept-state =
        let a = kept_board b k in
        let rule = keep-rule b k full in
        kept-none ∙ sym (state-free Closed a (kept_full b k full kept_free) (rule.stays_sound z) (rule.stays_closed z))

    pub keep_as_board : (room : ℕ) → keep_in file k room ≡ of_written (keep_of b k) (write_of (keep_of b k).board room)
    unfolding keep_in keep_of Lines.keep_of write_of
    keep_as_board room =
        on_board (λ r m q l. let a = Lines.keep_of r m q l k in keep_outcome a (Lines.write_of a.refusal q (prune_q m q l k) room))
        ∙ ap₂ (λ r l.
        keep_outcome (Lines.keep_of (state_refusal Closed b) b.rack (quantities_of b) (lines_of b) k) (Lines.write_of r (quantities_of b) l room))
        kept-state (sym (kept-lines b k full kept_free))

    pub keep-file_as_board : (out : List ℕ) → keep_file_in file k out ≡ write_buffer (keep_of b k).board out
    unfolding keep_file_in keep_of Lines.keep_of write_buffer
    keep-file_as_board out =
        on_board (λ r m q l. Lines.write_buffer (Lines.keep_of r m q l k).refusal m q (prune_q m q l k) out)
        ∙ ap₂ (λ r l. Lines.write_buffer r b.rack (quantities_of b) l out) kept-state (sym (kept-lines b k full kept_free))

  -- a keep that refuses writes nothing, and its margin is told
  module _ (k : ℕ) (h : (keep_of b k).number ≡ 0 → ⊥) where
    refused_26 : keep_refusal (state_refusal Closed b) (left k) ≡ refuse 26
    unfolding keep_of Lines.keep_of
    refused_26 =
        let e = ap (λ r. keep_refusal r (left k)) state_is in
        e ∙ keep_26 (left k) (λ z. h (ap (λ r. r.number) e ∙ z))

    pub keep-refused_as_board : (room : ℕ) → keep_in file k room ≡ of_kept (keep_of b k)
    unfolding keep_in keep_of Lines.keep_of Lines.write_of write_refusal or_else
    keep-refused_as_board room =
        on_board (λ r m q l. let a = Lines.keep_of r m q l k in keep_outcome a (Lines.write_of a.refusal q (prune_q m q l k) room))
        ∙ rw refused_26 refl

    pub keep-refused-file : (out : List ℕ) → keep_file_in file k out ≡ out
    unfolding keep_file_in Lines.keep_of Lines.write_buffer write_refusal or_else
    keep-refused-file out =
        on_board (λ r m q l. Lines.write_buffer (Lines.keep_of r m q l k).refusal m q (prune_q m q l k) out)
        ∙ rw refused_26 refl
