-- FILES AS IN THE BASE: a file without quantities, as those of version 1 are, is read as in the base, and gets the base's answers from common tip,
-- keep and quick sharing without a mounted tip; from best sharing too where its lines are unbroken runs.
use Prim.Native.Nat.{ℕ, ◌+◌, ◌*◌}
use mathlib.Core.Path.{◌≡◌, refl, sym, ap, ap₂, ◌∙◌}
use mathlib.Core.Bool.{Bool, true, false}
use mathlib.Core.List.{List}
use lib.Dec.{T, ltb}
use lib.ListN.{length, length-map}
use borrow.Author.Tests.{eqb-true, eqb-false}
use Rattle.model.specs.Count.{All}
use Rattle.model.specs.Choice.{bare}
use Rattle.model.specs.Before.{margin_before, kept_before, prune_before, is_run_before}
use Rattle.placements.specs.Repeated.{repeated}
use Rattle.placements.specs.Keep.{prune_q}
use Rattle.placements.proofs.Repeated.{repeated_ones}
use Rattle.refusal.specs.Told.{Refusal}
use Rattle.refusal.specs.Refusal.{accepts, or_else, when, told}
use Rattle.refusal.proofs.Laws.{or_first}
use Rattle.job.specs.Job.{file_length, version_for, counted, version_in, rack_in, count_in, sets_in, quantities_in, read_refusal}
use Rattle.job.proofs.Reading.{length-sets_in, length-quantities_in, plain_quantities, read_good}
use Rattle.job.proofs.Before.{sets_before, read_before}
use Rattle.call_refusals.specs.Calls.{mounted_refusal, write_refusal}
use Rattle.call_refusals.specs.Before.{keep_refusal_before, write_refusal_before}
use Rattle.line_calls.specs.Lines
use Rattle.file_calls.specs.Calls.{common_outcome, plan_outcome, keep_outcome, read_in, common_in, keep_in, keep_file_in, quick_in, quick_plan_in}
use Rattle.file_calls.specs.Calls.{best_in, best_plan_in, best_table_in}
use Rattle.board_laws.specs.Before.{common_lines, keep_lines, quick_lines, quick_plan_lines, best_lines, best_plan_lines, best_table_lines}
use Rattle.board_laws.specs.Before.{write_lines, written_lines, read_file, common_file, keep_file, kept_file, quick_file, quick_plan_file}
use Rattle.board_laws.specs.Before.{best_file, best_plan_file, best_table_file}
use Rattle.board_laws.specs.Format.{rack_found, sets_found, file_refusal_before}
use Rattle.board_laws.proofs.Format.{found_is, sets-found, file-refusal}
use Rattle.board_laws.proofs.LinesBefore.{common-lines, keep-lines, kept-lines, quick-lines, quick-plan-lines, write-lines, written-lines}
use Rattle.board_laws.proofs.LinesBefore.{best-lines, best-plan-lines, best-table-lines}

pub record FileAsInBase (file : List ℕ) : Type 0 where
  pub read : read_in file ≡ read_file file
  pub common-tip : common_in file ≡ common_file file
  pub keep : (k room : ℕ) → keep_in file k room ≡ keep_file file k room
  pub keep-file : (k : ℕ) (out : List ℕ) → keep_file_in file k out ≡ kept_file file k out
  pub quick : (room : ℕ) → quick_in file bare room ≡ quick_file file room
  pub quick-plan : (plan : List ℕ) → quick_plan_in file bare plan ≡ quick_plan_file file plan

-- best sharing
pub record FileBestAsInBase (file : List ℕ) : Type 0 where
  pub best : (room places : ℕ) → best_in file bare room places ≡ best_file file room places
  pub best-plan : (plan : List ℕ) (places : ℕ) → best_plan_in file bare plan places ≡ best_plan_file file plan places
  pub best-table : (room : ℕ) (cells : List ℕ) → best_table_in file bare room cells ≡ best_table_file file room cells

-- lines that are written count only where nothing is refused
module _ (d : Refusal) (m : ℕ) {qs : List ℕ} (ones : All (λ q. q ≡ 1) qs) {now old : List ℕ} (size : length qs ≡ length old)
    (agree : d.number ≡ 0 → now ≡ old) where
  accepted_write : accepts d ≡ true → (room : ℕ) → Lines.write_of d qs now room ≡ write_lines d old room
  accepted_write e room = rw (agree (eqb-true d.number 0 e)) (write-lines d m ones old size room)

  accepted_file : accepts d ≡ true → (out : List ℕ) → Lines.write_buffer d m qs now out ≡ written_lines d m old out
  accepted_file e out = rw (agree (eqb-true d.number 0 e)) (written-lines d m ones old size out)

  -- an earlier refusal stays
  stopped : accepts d ≡ false → (later : Refusal) → or_else d later ≡ d
  stopped e later = sym (or_first {d = d} refl later (eqb-false d.number 0 e))

  write_kept : (room : ℕ) → Lines.write_of d qs now room ≡ write_lines d old room
  unfolding Lines.write_of write_refusal write_refusal_before
  write_kept room = by (accepts d) refl
    where
      by : (t : Bool) → accepts d ≡ t → Lines.write_of d qs now room ≡ write_lines d old room
      by true e = accepted_write e room
      by false e =
          rw (stopped e (when (ltb room (file_length (version_for qs) (length now))) 11), stopped e (when (ltb room (8 + 8 * length old)) 11), e) refl

  written_kept : (out : List ℕ) → Lines.write_buffer d m qs now out ≡ written_lines d m old out
  unfolding Lines.write_buffer write_refusal write_refusal_before
  written_kept out = by (accepts d) refl
    where
      by : (t : Bool) → accepts d ≡ t → Lines.write_buffer d m qs now out ≡ written_lines d m old out
      by true e = accepted_file e out
      by false e =
          rw (
            stopped e (when (ltb (length out) (file_length (version_for qs) (length now))) 11),
            stopped e (when (ltb (length out) (8 + 8 * length old)) 11),
            e,
          ) refl

module _ (file : List ℕ) (plain : counted (version_in file) ≡ false) where
  abbrev r : Refusal
  r = read_refusal file

  abbrev m : ℕ
  m = rack_in file

  abbrev qs : List ℕ
  qs = quantities_in file

  abbrev lines : List ℕ
  lines = sets_in file

  pub read_is : r ≡ file_refusal_before file
  read_is = read_before file plain ∙ file-refusal file

  pub sets_are : lines ≡ sets_found file
  sets_are = sets_before file plain ∙ sets-found file

  rack_is : m ≡ rack_found file
  rack_is = found_is 1 file 5

  -- what is asked of the file is what the base asked
  in_base : {A : Type 0} (f : Refusal → ℕ → List ℕ → A) → f r m lines ≡ f (file_refusal_before file) (rack_found file) (sets_found file)
  in_base f = ap₂ (λ d l. f d m l) read_is sets_are ∙ ap (λ x. f (file_refusal_before file) x (sets_found file)) rack_is

  ones : All (λ q. q ≡ 1) qs
  ones = plain_quantities file plain

  same : length qs ≡ length lines
  same = length-quantities_in file ∙ sym (length-sets_in file)

  abbrev kept : ℕ → Refusal
  kept k = keep_refusal_before r (margin_before m lines k)

  kept_size : (k : ℕ) → length qs ≡ length (prune_before m lines k)
  unfolding prune_before
  kept_size k = same ∙ sym (length-map lines (kept_before m lines k))

  keep_base : (k room : ℕ) → keep_in file k room ≡ keep_file file k room
  unfolding keep_in
  keep_base k room =
      ap (λ a. keep_outcome a (Lines.write_of a.refusal qs (prune_q m qs lines k) room)) (keep-lines r m ones lines same k)
      ∙ ap (keep_outcome (keep_lines r m lines k)) (write_kept (kept k) m ones (kept_size k) (kept-lines r m ones lines same k) room)
      ∙ in_base (λ d x l. keep_outcome (keep_lines d x l k) (write_lines (keep_refusal_before d (margin_before x l k)) (prune_before x l k) room))

  keep_file_base : (k : ℕ) (out : List ℕ) → keep_file_in file k out ≡ kept_file file k out
  unfolding keep_file_in
  keep_file_base k out =
      ap (λ a. Lines.write_buffer a.refusal m qs (prune_q m qs lines k) out) (keep-lines r m ones lines same k)
      ∙ written_kept (kept k) m ones (kept_size k) (kept-lines r m ones lines same k) out
      ∙ in_base (λ d x l. written_lines (keep_refusal_before d (margin_before x l k)) x (prune_before x l k) out)

  -- NO QUANTITIES AND NO MOUNTED TIP: AS IN THE BASE
  pub file_as_in_base : FileAsInBase file
  unfolding read_in common_in quick_in quick_plan_in mounted_refusal
  file_as_in_base = record {
    read =
        in_base (λ d x l. record { refusal = d; first = told d x; second = told d (count_in file); third = 0 })
        ∙ ap (λ n. record {
          refusal = file_refusal_before file;
          first = told (file_refusal_before file) (rack_found file);
          second = told (file_refusal_before file) n;
          third = 0;
        }) (found_is 2 file 6);
    common-tip =
        ap common_outcome (common-lines r m ones lines same)
        ∙ in_base (λ d x l. common_outcome (common_lines d x l));
    keep = keep_base;
    keep-file = keep_file_base;
    quick = λ room.
        ap plan_outcome (quick-lines r m ones lines same room)
        ∙ in_base (λ d x l. plan_outcome (quick_lines d x l room));
    quick-plan = λ plan.
        quick-plan-lines r m ones lines same plan ∙ in_base (λ d x l. quick_plan_lines d x l plan);
  }

  module _ (unbroken : All (λ s. T (is_run_before s)) lines) where
    placements : repeated qs lines ≡ lines
    placements = repeated_ones ones lines same

    -- AND UNBROKEN RUNS: BEST SHARING AS IN THE BASE
    pub file_best_as_in_base : FileBestAsInBase file
    unfolding best_in best_plan_in best_table_in mounted_refusal
    file_best_as_in_base = record {
      best = λ room places.
          ap plan_outcome (best-lines r (read_good file) unbroken room places)
          ∙ ap (λ p. plan_outcome (best_lines r m p lines room places)) placements
          ∙ in_base (λ d x l. plan_outcome (best_lines d x l l room places));
      best-plan = λ plan places.
          best-plan-lines r (read_good file) unbroken plan places
          ∙ ap (λ p. best_plan_lines r m p lines plan places) placements
          ∙ in_base (λ d x l. best_plan_lines d x l l plan places);
      best-table = λ room cells.
          best-table-lines r (read_good file) unbroken room cells
          ∙ ap (λ p. best_table_lines r m p lines room cells) placements
          ∙ in_base (λ d x l. best_table_lines d x l l room cells);
    }
