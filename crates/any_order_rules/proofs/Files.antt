-- THE SORT DOES NOT SHOW IN FILES: files with the same lines, each with its quantity, in another order give the same.
use Prim.Native.Nat.{ℕ, ◌<◌}
use native.Mathlib.Omega.{arith}
use mathlib.Core.Path.{◌≡◌, refl, sym, ap, ◌∙◌}
use mathlib.Core.Bool.{Bool, true, false, cond}
use mathlib.Core.List.{List}
use borrow.Author.Tests.{eqb-true, ne_eqb}
use lib.Dec.{ltb}
use lib.ListN.{length, get_or, drop, get_or-append}
use Rattle.model.specs.Choice.{Mounted, bare}
use Rattle.placements.specs.Repeated.{repeated}
use Rattle.placements.specs.Keep.{kept_q, prune_q}
use Rattle.placements.proofs.Repeated.{zip-at}
use Rattle.refusal.specs.Told.{Refusal}
use Rattle.refusal.specs.Refusal.{none, accepts, or_else, when}
use Rattle.refusal.proofs.Laws.{accepted}
use Rattle.job.specs.Job.{Bytes, file_length, rack_in, count_in, sets_in, quantities_in, read_refusal}
use Rattle.job.proofs.Reading.{length-sets_in, read_good}
use Rattle.call_refusals.specs.declared.Stage.TheVariants.{Closed}
use Rattle.call_refusals.specs.Calls.{write_refusal}
use Rattle.line_calls.specs.Lines
use Rattle.board.specs.declared.Board.{Board}
use Rattle.board.specs.Board.{no_sets, answer, lines_of, quantities_of, state_refusal}
use Rattle.board.specs.Common.{common_of, keep_of}
use Rattle.board.specs.Sharing.{best_of}
use Rattle.board.specs.JobFile.{board_in, read_of}
use Rattle.board.proofs.JobFileRule.{full_in, sound_in, lines-in, quantities-in}
use Rattle.board_laws.proofs.AsBoard.{on_board, state_is, read_as_board, common_as_board, quick_as_board, quick_plan_as_board}
use Rattle.board_laws.proofs.AsBoard.{best_as_board, best_plan_as_board, best-table_as_board}
use Rattle.file_calls.specs.Outcomes.{twos_complement}
use Rattle.file_calls.specs.Calls.{read_in, common_in, keep_in, quick_in, best_in}
use Rattle.file_calls.proofs.KeptFile.{as_pruned}
use Rattle.any_order_rules.specs.Boards.{SoundClosed, Reordered, AlikeBySet, SameAnswers}
use Rattle.any_order_rules.specs.Files.{ReorderedFiles, LongEnoughFor, AlikeInFiles, SameFirst, SameOutcomes, sets_kept, SameKept}
use Rattle.any_order_rules.proofs.Counts.{placements-counts, lines-counts, length_hides}
use Rattle.any_order_rules.proofs.HiddenOrder.{order_hidden}
use Rattle.any_order_rules.proofs.Boards.{sort_hidden, kept_alike}

-- ---- one file

module _ (file : List ℕ) (e : read_refusal file ≡ none) where
  free : (read_refusal file).number ≡ 0
  free = ap (λ r. r.number) e

  pub given : read_of file ≡ answer (board_in file) none
  unfolding read_of
  given = accepted _ _ {d = read_refusal file} refl free

  own : SoundClosed (board_in file)
  own =
      let full = full_in file free in
      record { sets_full = full.sets_full; quantities_full = full.quantities_full; is_sound = sound_in file free; is_closed = refl }

  -- a line's set on the board is that in the file
  set_at : (i : ℕ) → i < count_in file → get_or (board_in file).sets i 0 ≡ get_or (sets_in file) i 0
  set_at i l = get_or-append (sets_in file) (drop (count_in file) no_sets) 0 i (omega (arith, length-sets_in file))

-- ---- two files

module _ (f₁ f₂ : List ℕ) (r : ReorderedFiles f₁ f₂) where
  abbrev b₁ : Board
  b₁ = board_in f₁

  abbrev b₂ : Board
  b₂ = board_in f₂

  pub boards : Reordered b₁ b₂
  boards = record {
    own₁ = own f₁ r.read₁;
    own₂ = own f₂ r.read₂;
    racks = r.racks;
    parts = rw (lines-in f₁, quantities-in f₁, lines-in f₂, quantities-in f₂) r.parts;
  }

  boards-kept : (k : ℕ) → ((keep_of b₁ k).number ≡ (keep_of b₂ k).number) × ((keep_of b₁ k).margin ≡ (keep_of b₂ k).margin)
  boards-kept k = kept_alike b₁ b₂ boards k

  pub in_files : (us vs : List ℕ) → AlikeBySet b₁ b₂ us vs → AlikeInFiles f₁ f₂ us vs
  in_files us vs h i j l k e = h i j l k (set_at f₁ r.read₁ i l ∙ e ∙ sym (set_at f₂ r.read₂ j k))

  module _ (mounted : Mounted) (plan₁ plan₂ cells₁ cells₂ : List ℕ) (long₁ : LongEnoughFor f₁ plan₁ cells₁)
      (long₂ : LongEnoughFor f₂ plan₂ cells₂) where
    same : SameAnswers 0 mounted b₁ b₂ plan₁ plan₂ cells₁ cells₂
    same =
        sort_hidden b₁ b₂ boards mounted plan₁ plan₂ cells₁ cells₂ (record { bytes = long₁.bytes; places = long₁.places })
        (record { bytes = long₂.bytes; places = long₂.places }) 0

    abbrev places₁ : ℕ
    places₁ = length cells₁

    abbrev places₂ : ℕ
    places₂ = length cells₂

    abbrev given₁ : read_of f₁ ≡ answer b₁ none
    given₁ = given f₁ r.read₁

    abbrev given₂ : read_of f₂ ≡ answer b₂ none
    given₂ = given f₂ r.read₂

    same_count : count_in f₁ ≡ count_in f₂
    same_count =
        let good₁ = read_good f₁ (free f₁ r.read₁) in
        let good₂ = read_good f₂ (free f₂ r.read₂) in
        let lines = lines-counts (quantities_in f₁) (sets_in f₁) (quantities_in f₂) (sets_in f₂) r.parts good₁.same good₂.same in
        sym (length-sets_in f₁) ∙ length_hides (sets_in f₁) (sets_in f₂) lines ∙ length-sets_in f₂

    same_read : read_in f₁ ≡ read_in f₂
    same_read = read_as_board f₁ b₁ given₁ ∙ rw (r.racks, same_count) refl ∙ sym (read_as_board f₂ b₂ given₂)

    same_place : (common_of b₁).place ≡ (common_of b₂).place
    unfolding common_of Lines.common_of
    same_place = ap (λ d. d.place) (state_is f₁ b₁ given₁ ∙ sym (state_is f₂ b₂ given₂))

    same_common : common_in f₁ ≡ common_in f₂
    same_common =
        common_as_board f₁ b₁ given₁
        ∙ rw (same.common_number, same_place, same.tops, same.offs, same.tips) refl
        ∙ sym (common_as_board f₂ b₂ given₂)

    same_quick : SameFirst (quick_in f₁ mounted (length plan₁)) (quick_in f₂ mounted (length plan₂))
    same_quick = rw (quick_as_board f₁ b₁ given₁ mounted (length plan₁), quick_as_board f₂ b₂ given₂ mounted (length plan₂)) (record {
      number = same.quick_number;
      first = same.quick-pairs;
    })

    same_best : SameFirst (best_in f₁ mounted (length plan₁) places₁) (best_in f₂ mounted (length plan₂) places₂)
    same_best =
        rw (best_as_board f₁ b₁ given₁ mounted (length plan₁) places₁, best_as_board f₂ b₂ given₂ mounted (length plan₂) places₂) (record {
          number = same.best_number;
          first = same.best-pairs;
        })

    -- THE SORT DOES NOT SHOW
    pub files_hidden : SameOutcomes mounted f₁ f₂ plan₁ plan₂ cells₁ cells₂
    files_hidden = record {
      read = same_read;
      common = same_common;
      quick = same_quick;
      quick_tips = λ z.
          rw (quick_plan_as_board f₁ b₁ given₁ mounted plan₁, quick_plan_as_board f₂ b₂ given₂ mounted plan₂)
          (in_files _ _ (same.quick_tips (ap (λ o. o.refusal.number) (sym (quick_as_board f₁ b₁ given₁ mounted (length plan₁))) ∙ z)));
      best = same_best;
      best_tips = λ z.
          rw (best_plan_as_board f₁ b₁ given₁ mounted plan₁ places₁, best_plan_as_board f₂ b₂ given₂ mounted plan₂ places₂)
          (in_files _ _ (same.best_tips (accepts-best z)));
      tables = λ z.
          rw (best-table_as_board f₁ b₁ given₁ mounted (length plan₁) cells₁, best-table_as_board f₂ b₂ given₂ mounted (length plan₂) cells₂)
          (same.tables (accepts-best z));
    }
      where
        accepts-best : (best_in f₁ mounted (length plan₁) places₁).refusal.number ≡ 0 → (best_of b₁ mounted (length plan₁) places₁).number ≡ 0
        accepts-best z = ap (λ o. o.refusal.number) (sym (best_as_board f₁ b₁ given₁ mounted (length plan₁) places₁)) ∙ z

-- ---- keep

-- a refusal of writing that is not 11 is the earlier one
not_11 : (r : Refusal) (v n room : ℕ) → ((write_refusal r v n room).number ≡ 11 → ⊥) → (write_refusal r v n room).number ≡ r.number
unfolding write_refusal or_else
not_11 r v n room h = by (accepts r) refl (ltb room (file_length v n)) h
  where
    by : (b : Bool) → accepts r ≡ b → (short : Bool) → ((cond b (when short 11) r).number ≡ 11 → ⊥) → (cond b (when short 11) r).number ≡ r.number
    by true e true f = absurd (f refl)
    by true e false f = sym (eqb-true r.number 0 e)
    by false e short f = refl

module _ (file : List ℕ) (e : read_refusal file ≡ none) (k : ℕ) where
  abbrev board : Board
  board = board_in file

  -- what the board's keep answers
  kept_is : Lines.keep_of (read_refusal file) (rack_in file) (quantities_in file) (sets_in file) k
      ≡ Lines.keep_of (state_refusal Closed board) board.rack (quantities_of board) (lines_of board) k
  kept_is = on_board file board (given file e) (λ r m q l. Lines.keep_of r m q l k)

  module _ (room : ℕ) (h : (keep_in file k room).refusal.number ≡ 11 → ⊥) where
    kept-number : (keep_in file k room).refusal.number ≡ (keep_of board k).number
    unfolding keep_in keep_of Lines.write_of
    kept-number = not_11 _ _ _ room h ∙ ap (λ a. a.refusal.number) kept_is

    kept-margin : (keep_in file k room).first ≡ twos_complement (keep_of board k).margin
    unfolding keep_in keep_of Lines.write_of
    kept-margin = rw (ne_eqb _ 11 h) (ap (λ a. twos_complement a.margin) kept_is)

  -- the set that is left on a line of the file written
  left_at : Bytes file → (out : List ℕ) → (keep_in file k (length out)).refusal.number ≡ 0 → (i : ℕ) → i < count_in file
      → get_or (sets_kept file k out) i 0
      ≡ kept_q (rack_in file) (repeated (quantities_in file) (sets_in file)) k (get_or (quantities_in file) i 0) (get_or (sets_in file) i 0)
  unfolding prune_q
  left_at bytes out z i l =
      let good = read_good file (free file e) in
      let rule = kept_q (rack_in file) (repeated (quantities_in file) (sets_in file)) k in
      ap (λ xs. get_or xs i 0) (as_pruned file k out bytes z).sets_are
      ∙ zip-at rule (quantities_in file) (sets_in file) i (omega (arith, length-sets_in file)) good.same

module _ (f₁ f₂ : List ℕ) (r : ReorderedFiles f₁ f₂) (bytes₁ : Bytes f₁) (bytes₂ : Bytes f₂) (k : ℕ) (out₁ out₂ : List ℕ)
    (room₁ : (keep_in f₁ k (length out₁)).refusal.number ≡ 11 → ⊥) (room₂ : (keep_in f₂ k (length out₂)).refusal.number ≡ 11 → ⊥) where
  abbrev placed₁ : List ℕ
  placed₁ = repeated (quantities_in f₁) (sets_in f₁)

  abbrev placed₂ : List ℕ
  placed₂ = repeated (quantities_in f₂) (sets_in f₂)

  same_first : SameFirst (keep_in f₁ k (length out₁)) (keep_in f₂ k (length out₂))
  same_first =
      let same = boards-kept f₁ f₂ r k in
      record {
        number = kept-number f₁ r.read₁ k _ room₁ ∙ same.0 ∙ sym (kept-number f₂ r.read₂ k _ room₂);
        first = kept-margin f₁ r.read₁ k _ room₁ ∙ ap twos_complement same.1 ∙ sym (kept-margin f₂ r.read₂ k _ room₂);
      }

  -- KEEP DOES NOT SHOW THE SORT EITHER
  pub kept_hidden : SameKept k f₁ f₂ out₁ out₂
  kept_hidden = record {
    keep = same_first;
    kept = λ z i j l h e q.
        let counts = placements-counts (quantities_in f₁) (sets_in f₁) (quantities_in f₂) (sets_in f₂) r.parts in
        let s = get_or (sets_in f₂) j 0 in
        let n = get_or (quantities_in f₂) j 0 in
        left_at f₁ r.read₁ k bytes₁ out₁ z i l
        ∙ rw (e, q, r.racks) ((order_hidden (rack_in f₂) k bare).kept n s placed₁ placed₂ counts)
        ∙ sym (left_at f₂ r.read₂ k bytes₂ out₂ (sym same_first.number ∙ z) j h);
  }
