-- AS IN THE BASE: a board whose lines have quantity 1 gets the base's answers from add, close, common tip, keep, quick sharing without a mounted tip
-- and write; from best sharing too where its lines are unbroken runs. The base's rules are written for themselves in model/specs/Before, and its
-- refusals in call_refusals.
use Prim.Native.Nat.{ℕ, ◌+◌, ◌*◌, ◌<◌, ◌≤◌, zero-le}
use mathlib.Core.Path.{◌≡◌, refl, sym, ap, ap₂, ◌∙◌}
use mathlib.Core.Logic.{⊎_elim}
use mathlib.Core.Bool.{Bool, true, false, cond}
use mathlib.Core.List.{List, [], ◌∷◌, map}
use native.Mathlib.Omega.{arith}
use lib.Dec.{T, T_not, ltb}
use lib.ListN.{length, get_or, length-take}
use Rattle.std.specs.Int.Count.{count_leading_zeros, count_trailing_zeros}
use borrow.Author.Tests.{lt-ltb}
use Rattle.model.specs.Count.{All, count, every, list_of, first_fail}
use Rattle.model.specs.Plan.{has, occ, Domain, pairs}
use Rattle.model.specs.Limits.{most_tips, most_placements}
use Rattle.model.specs.Choice.{bare}
use Rattle.model.specs.Interval.{low, high, named, fills, is_run, is_run_of}
use Rattle.model.specs.Before.{lowest_of, highest_of, margin_before, prune_before, quick_before, low_before, high_before, is_run_before}
use Rattle.model.specs.Before.{C_before, best_tip_before, table_before}
use Rattle.model.proofs.Tests.{le_or_lt, cond_case}
use Rattle.model.proofs.Lists.{all-at}
use Rattle.model.proofs.Fails.{none_fails, fails_at, fails_first}
use Rattle.model.proofs.Run.{run_of_run}
use Rattle.model.proofs.Before.{run_before}
use Rattle.placements.specs.Repeated.{total, repeated}
use Rattle.placements.specs.Good.{GoodLines}
use Rattle.placements.proofs.Repeated.{length-repeated, repeated_ones}
use Rattle.refusal.specs.Told.{Refusal}
use Rattle.refusal.specs.Refusal.{none, accepts, scan, told, lent_by}
use Rattle.refusal.proofs.Laws.{scan_passes}
use Rattle.board_laws.specs.Format.{file_before}
use Rattle.call_refusals.specs.declared.Stage.{Stage}
use Rattle.call_refusals.specs.declared.Stage.TheVariants.{Open, Closed}
use Rattle.call_refusals.specs.Calls.{mounted_refusal, run_refusal}
use Rattle.call_refusals.specs.Before.{told_before, Plain, add_refusal_before, keep_refusal_before, quick_refusal_before}
use Rattle.call_refusals.specs.Before.{best_refusal_before, write_refusal_before}
use Rattle.call_refusals.proofs.Before.{told_accepts, state-before, add-same, add-told, keep-told, quick-told, best-told, write-told, broken_before}
use Rattle.board.specs.declared.Board.{Board}
use Rattle.board.specs.Board.{lines_of, quantities_of, state_refusal, answer, add_of, close_of}
use Rattle.board.specs.Common.{common_of, keep_of}
use Rattle.board.specs.Sharing.{shared, quick_of, quick_buffer, best_of, best_buffer, best_table}
use Rattle.board.specs.JobFile.{write_of, write_buffer}
use Rattle.board.proofs.Sets.{Full, same_size, ready, lines-count}
use Rattle.board_laws.specs.Before.{common_lines, keep_lines, sets_lines, pairs_lines, quick_plan_lines}
use Rattle.board_laws.specs.Before.{best_plan_lines, best_table_lines, write_lines, written_lines}
use Rattle.board_laws.specs.Before.{state, added, shut, added_before, closed_before, common_answer, common_before, kept_answer, kept_before}
use Rattle.board_laws.specs.Before.{quick_answer_before, best_answer_before, written_answer, written_before}
use Rattle.board_laws.specs.Before.{answer_told, common_told, kept_told, shared_told, written_told}
use Rattle.board_laws.proofs.LinesBefore.{common-lines, keep-lines, sets-lines, quick-lines, quick-plan-lines, write-lines, written-lines}
use Rattle.board_laws.proofs.LinesBefore.{best-lines, best-plan-lines, best-table-lines}

-- a line is added with quantity 1
pub record AsInBase (b : Board) : Type 0 where
  pub add : (s : ℕ) → answer_told (add_of b s 1) ≡ added_before b s
  pub close : answer_told (close_of b) ≡ closed_before b
  pub common-tip : common_told (common_of b) ≡ common_before b
  pub keep : (k : ℕ) → kept_told (keep_of b k) ≡ kept_before b k
  pub quick : (room : ℕ) → shared_told (quick_of b bare room) ≡ quick_answer_before b room
  pub quick-plan : (plan : List ℕ) → quick_buffer b bare plan ≡ quick_plan_lines (state Closed b) b.rack (lines_of b) plan
  pub write : (room : ℕ) → written_told (write_of b room) ≡ written_before b room
  pub write-file : (out : List ℕ) → write_buffer b out ≡ written_lines (state Closed b) b.rack (lines_of b) out

-- best sharing
pub record BestAsInBase (b : Board) : Type 0 where
  pub best : (room places : ℕ) → shared_told (best_of b bare room places) ≡ best_answer_before b room places
  pub best-plan : (plan : List ℕ) (places : ℕ)
      → best_buffer b bare plan places ≡ best_plan_lines (state Closed b) b.rack (lines_of b) (lines_of b) plan places
  pub best-table : (room : ℕ) (cells : List ℕ)
      → best_table b bare room cells ≡ best_table_lines (state Closed b) b.rack (lines_of b) (lines_of b) room cells

-- ---- what the base told of an answer after the refusal d

module _ (d : Refusal) where
  told_same : (x : ℕ) → told d x ≡ told (told_before d) x
  told_same x = rw (told_accepts d) refl

  lent_told : (n : ℕ) (new old : List ℕ) → lent_by d n new old ≡ lent_by (told_before d) n new old
  lent_told n new old = rw (told_accepts d) refl

  chosen : (t : Bool) (b out : Board) → answer_told (cond t (answer out none) (answer b d)) ≡ cond t (answer out none) (answer b (told_before d))
  unfolding told_before
  chosen true b out = refl
  chosen false b out = refl

  -- a board that is handed out where nothing is refused
  answered : (b out : Board) → answer_told (cond (accepts d) (answer out none) (answer b d))
      ≡ cond (accepts (told_before d)) (answer out none) (answer b (told_before d))
  answered b out = rw (told_accepts d) (chosen (accepts d) b out)

  common_answered : (b : Board) (m : ℕ) (lines : List ℕ)
      → common_told (common_answer b (common_lines d m lines)) ≡ common_answer b (common_lines (told_before d) m lines)
  common_answered b m lines = rw (told_accepts d) refl

  kept_answered : (b : Board) (m : ℕ) (lines : List ℕ) (k : ℕ) (sets : List ℕ)
      → kept_told (kept_answer b sets (keep_lines d m lines k)) ≡ kept_answer b sets (keep_lines (told_before d) m lines k)
  kept_answered b m lines k sets = rw (← keep-told d (margin_before m lines k), told_accepts d) refl

  shared_answered : (b : Board) (p : ℕ) → shared_told (shared b (pairs_lines d p)) ≡ shared b (pairs_lines (told_before d) p)
  shared_answered b p = rw (told_accepts d) refl

  written_answered : (b : Board) (lines : List ℕ) (room : ℕ)
      → written_told (written_answer b (write_lines d lines room)) ≡ written_answer b (write_lines (told_before d) lines room)
  written_answered b lines room = rw (← write-told d (length lines) room, told_accepts (write_refusal_before d (length lines) room)) refl

module _ (b : Board) (full : Full b) (plain : Plain b.count b.quantities) where
  abbrev m : ℕ
  m = b.rack

  abbrev qs : List ℕ
  qs = quantities_of b

  abbrev lines : List ℕ
  lines = lines_of b

  abbrev today : Refusal
  today = state_refusal Closed b

  -- a quantity for each line
  same : length qs ≡ length lines
  same = omega (arith, same_size b full, length-take b.count b.quantities, length-take b.count b.sets)

  all : total qs ≡ length lines
  all = sym (length-repeated qs lines same) ∙ ap length (repeated_ones plain.ones lines same)

  state_told : (asked : Stage) → told_before (state_refusal asked b) ≡ state asked b
  state_told asked = state-before m b.count b.quantities b.sets (same_size b full) plain asked b.stage

  add_base : (s : ℕ) → answer_told (add_of b s 1) ≡ added_before b s
  unfolding add_of
  add_base s =
      let r = state_refusal Open b in
      let d = add_refusal_before r m b.count s in
      let few : r.number ≡ 0 → total qs < most_placements = λ z.
      let known = ready Open b full refl z in
      omega (arith, all, lines-count Open b full known, known.sound.count_most) in
      rw (add-same r m b.count (total qs) s few)
      (answered d b (added b s)
      ∙ ap (λ e. cond (accepts e) (answer (added b s) none) (answer b e))
      (add-told r m b.count s ∙ ap (λ e. add_refusal_before e m b.count s) (state_told Open)))

  close_base : answer_told (close_of b) ≡ closed_before b
  unfolding close_of
  close_base =
      answered (state_refusal Open b) b (shut b) ∙ ap (λ e. cond (accepts e) (answer (shut b) none) (answer b e)) (state_told Open)

  common_base : common_told (common_of b) ≡ common_before b
  unfolding common_of
  common_base =
      ap (λ a. common_told (common_answer b a)) (common-lines today m plain.ones lines same)
      ∙ common_answered today b m lines
      ∙ ap (λ r. common_answer b (common_lines r m lines)) (state_told Closed)

  keep_base : (k : ℕ) → kept_told (keep_of b k) ≡ kept_before b k
  unfolding keep_of
  keep_base k =
      let z = margin_before m lines k in
      let d = keep_refusal_before today z in
      let pruned = prune_before m lines k in
      let base = state Closed b in
      let sets = sets-lines today m plain.ones lines same k b.sets
      ∙ lent_told d (length lines) pruned b.sets
      ∙ ap (λ e. lent_by e (length lines) pruned b.sets) (keep-told today z ∙ ap (λ r. keep_refusal_before r z) (state_told Closed)) in
      ap₂ (λ s a. kept_told (kept_answer b s a)) sets (keep-lines today m plain.ones lines same k)
      ∙ kept_answered today b m lines k (sets_lines base m lines k b.sets)
      ∙ ap (λ r. kept_answer b (sets_lines base m lines k b.sets) (keep_lines r m lines k)) (state_told Closed)

  plan_refused : (room : ℕ) → told_before (quick_refusal_before today (length lines) room) ≡ quick_refusal_before (state Closed b) (length lines) room
  plan_refused room = quick-told today (length lines) room ∙ ap (λ r. quick_refusal_before r (length lines) room) (state_told Closed)

  write_refused : (room : ℕ)
      → told_before (write_refusal_before today (length lines) room) ≡ write_refusal_before (state Closed b) (length lines) room
  write_refused room = write-told today (length lines) room ∙ ap (λ r. write_refusal_before r (length lines) room) (state_told Closed)

  -- QUANTITY 1 AND NO MOUNTED TIP: AS IN THE BASE
  pub as_in_base : AsInBase b
  unfolding quick_of quick_buffer write_of write_buffer mounted_refusal
  as_in_base =
      record {
        add = add_base;
        close = close_base;
        common-tip = common_base;
        keep = keep_base;
        quick = λ room.
            let p = pairs (quick_before m lines) in
            ap (λ a. shared_told (shared b a)) (quick-lines today m plain.ones lines same room)
            ∙ shared_answered (quick_refusal_before today (length lines) room) b p
            ∙ ap (λ d. shared b (pairs_lines d p)) (plan_refused room);
        quick-plan = λ plan.
            quick-plan-lines today m plain.ones lines same plan
            ∙ lent_told (quick_refusal_before today (length lines) (length plan)) (length lines) (quick_before m lines) plan
            ∙ ap (λ d. lent_by d (length lines) (quick_before m lines) plan) (plan_refused (length plan));
        write = λ room.
            ap (λ a. written_told (written_answer b a)) (write-lines today m plain.ones lines same room)
            ∙ written_answered today b lines room
            ∙ ap (λ r. written_answer b (write_lines r lines room)) (state_told Closed);
        write-file = λ out.
            let n = 8 + 8 * length lines in
            written-lines today m plain.ones lines same out
            ∙ lent_told (write_refusal_before today (length lines) (length out)) n (file_before m lines) out
            ∙ ap (λ d. lent_by d n (file_before m lines) out) (write_refused (length out));
      }

  -- ---- best sharing

  module _ (unbroken : All (λ s. T (is_run_before s)) lines) where
    good : today.number ≡ 0 → GoodLines m qs lines
    good z = (ready Closed b full refl z).sound.good

    refused : (room places : ℕ)
        → told_before (best_refusal_before today m lines room places) ≡ best_refusal_before (state Closed b) m lines room places
    refused room places = best-told today m lines room places ∙ ap (λ r. best_refusal_before r m lines room places) (state_told Closed)

    placements : repeated qs lines ≡ lines
    placements = repeated_ones plain.ones lines same

    -- AND UNBROKEN RUNS: BEST SHARING AS IN THE BASE
    pub best_as_in_base : BestAsInBase b
    unfolding best_of best_buffer best_table mounted_refusal
    best_as_in_base = record {
      best = λ room places.
          ap (λ a. shared_told (shared b a)) (best-lines today good unbroken room places)
          ∙ shared_answered (best_refusal_before today m lines room places) b (C_before (repeated qs lines) 0 m)
          ∙ ap₂ (λ d p. shared b (pairs_lines d (C_before p 0 m))) (refused room places) placements;
      best-plan = λ plan places.
          best-plan-lines today good unbroken plan places
          ∙ lent_told (best_refusal_before today m lines (length plan) places) (length lines)
          (map (best_tip_before m (repeated qs lines) 0 m) lines) plan
          ∙ ap₂ (λ d p. lent_by d (length lines) (map (best_tip_before m p 0 m) lines) plan) (refused (length plan) places) placements;
      best-table = λ room cells.
          best-table-lines today good unbroken room cells
          ∙ lent_told (best_refusal_before today m lines room (length cells)) (m * m) (table_before m (repeated qs lines)) cells
          ∙ ap₂ (λ d p. lent_by d (m * m) (table_before m p) cells) (refused room (length cells)) placements;
    }

-- WHERE 25 IS GIVEN THE BASE GAVE IT, at that line or an earlier one
pub broken_in_base : {m : ℕ} {lines : List ℕ} → m ≤ most_tips → All (Domain m) lines → ((run_refusal lines).number ≡ 0 → ⊥) →
    let old = scan is_run_before (λ _. 25) lines in
    (old.number ≡ 25) × (old.place ≤ (run_refusal lines).place)
unfolding scan
broken_in_base {m} {lines} narrow ds n =
    (broken_before narrow ds n, cond_case (λ (r : Refusal). r.place ≤ (run_refusal lines).place) (ltb i size) here (λ _. zero-le))
  where
    run : ℕ → Bool
    run = is_run_of (named lines)

    size : ℕ
    size = length lines

    i : ℕ
    i = first_fail is_run_before lines

    j : ℕ
    j = first_fail run lines

    inside : j < size
    inside =
        ⊎_elim
        (λ p. absurd (n (ap (λ r. r.number) (scan_passes run (λ _. 25) lines (none_fails run lines p)))))
        (λ p. p)
        (le_or_lt size j)

    -- a line that misses a named tip is no unbroken run
    first : i ≤ j
    first =
        ⊎_elim (λ p. p)
        (λ p.
        let d = all-at 0 ds j inside in
        let old : T (is_run (get_or lines j 0)) = rw (run_before narrow d) (fails_first is_run_before lines j p) in
        absurd (T_not (run (get_or lines j 0)) (fails_at run lines inside) (run_of_run narrow d (named lines) old)))
        (le_or_lt i j)

    here : T (ltb i size) → i ≤ (run_refusal lines).place
    here _ = rw (lt-ltb j size inside) first

-- {1} and {2,4}: no line has tip 3, so the second is a run today; the base gave 25 at its place
absent_tip : (scan is_run_before (λ _. 25) (2 ∷ 20 ∷ []) ≡ record { number = 25; place = 1 }) × (run_refusal (2 ∷ 20 ∷ []) ≡ none)
unfolding scan first_fail is_run_before low_before high_before lowest_of highest_of count list_of has is_run_of every named occ fills low high
    count_leading_zeros count_trailing_zeros
absent_tip = (refl, refl)
