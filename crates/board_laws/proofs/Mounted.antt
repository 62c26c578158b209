-- Without a mounted tip both plans are what they were before there was one. A mounted tip of the rack changes neither the pairs of best sharing nor
-- its table.
use Prim.Native.Nat.{ℕ, ◌*◌, ◌-◌}
use native.Mathlib.Omega.{arith}
use mathlib.Core.Path.{◌≡◌, refl, sym, ap}
use mathlib.Core.Bool.{false}
use mathlib.Core.List.{List}
use lib.ListN.{length}
use Rattle.model.specs.Count.{All}
use Rattle.model.specs.Plan.{Domain}
use Rattle.model.specs.Choice.{Mounted, bare}
use Rattle.model.specs.Interval.{C}
use Rattle.placements.specs.Repeated.{repeated}
use Rattle.placements.specs.Good.{GoodLines}
use Rattle.placements.proofs.Repeated.{all-repeated}
use Rattle.refusal.specs.Told.{Refusal}
use Rattle.job.specs.Job.{rack_in, sets_in, quantities_in, read_refusal}
use Rattle.job.proofs.Reading.{read_good}
use Rattle.call_refusals.specs.declared.Stage.TheVariants.{Closed}
use Rattle.call_refusals.specs.Calls.{is_outside, mounted_refusal, plan_refusal, best_refusal}
use Rattle.call_refusals.specs.Before.{quick_refusal_before}
use Rattle.call_refusals.proofs.Calls.{mounted_inside, best_none}
use Rattle.line_calls.specs.Lines
use Rattle.board.specs.declared.Board.{Board}
use Rattle.board.specs.Board.{lines_of, quantities_of, state_refusal}
use Rattle.board.specs.Sharing.{shared, quick_of, quick_buffer, best_of, best_buffer, best_table}
use Rattle.board.proofs.Sets.{Full, ready}
use Rattle.file_calls.specs.Calls.{plan_outcome, quick_in, quick_plan_in, best_in, best_plan_in, best_table_in}
use Rattle.board_laws.specs.Unmounted.{best_refusal_unmounted, named_C}
use Rattle.board_laws.specs.Unmounted.{quick_then, quick_plan_then, best_then, best_plan_then, best_table_then}
use Rattle.board_laws.proofs.Ones.{lent_same, told_same}
use Rattle.board_laws.proofs.Unmounted.{refusal_unmounted, quick-unmounted, named-C, named-table, best-unmounted}

-- ---- lines, after the same earlier refusal

module _ (r : Refusal) (m : ℕ) (qs lines : List ℕ) where
  quick-then : (room : ℕ) → Lines.quick_of r m bare qs lines room ≡ quick_then r m qs lines room
  unfolding Lines.quick_of plan_refusal quick_refusal_before
  quick-then room = rw (quick-unmounted m qs lines) refl

  quick-plan-then : (plan : List ℕ) → Lines.quick_buffer r m bare qs lines plan ≡ quick_plan_then r m qs lines plan
  unfolding Lines.quick_buffer plan_refusal quick_refusal_before
  quick-plan-then plan = rw (quick-unmounted m qs lines) refl

  module _ (lines-good : r.number ≡ 0 → GoodLines m qs lines) where
    refused_then : (room places : ℕ) → best_refusal r m lines room places ≡ best_refusal_unmounted r m lines room places
    refused_then = refusal_unmounted r (λ z. ((lines-good z).most, (lines-good z).domains))

    -- where best sharing is not refused the lines are good, and so are their placements
    good : (room places : ℕ) → (best_refusal r m lines room places).number ≡ 0 → GoodLines m qs lines
    good room places z = lines-good (best_none r m lines room places z).free

    placed : GoodLines m qs lines → All (Domain m) (repeated qs lines)
    placed g = all-repeated qs g.domains

    pairs_then : GoodLines m qs lines → C (repeated qs lines) 0 m ≡ named_C (repeated qs lines) 0 m
    unfolding C
    pairs_then g =
        let z : m - 0 ≡ m = omega arith in
        rw z at (named-C g.most (placed g) 0 m)

    best-then : (room places : ℕ) → Lines.best_of r m qs lines room places ≡ best_then r m qs lines room places
    unfolding Lines.best_of
    best-then room places =
        let d = best_refusal r m lines room places in
        rw (← refused_then room places)
        (ap (λ n. record { refusal = d; pairs = n }) (told_same d (λ z. pairs_then (good room places z))))

    best-plan-then : (plan : List ℕ) (places : ℕ) → Lines.best_buffer r m bare qs lines plan places ≡ best_plan_then r m qs lines plan places
    unfolding Lines.best_buffer
    best-plan-then plan places =
        rw (← refused_then (length plan) places)
        (lent_same (best_refusal r m lines (length plan) places) (length lines) plan (λ z.
        best-unmounted (good (length plan) places z) (best_none r m lines (length plan) places z).runs))

    best-table-then : (room : ℕ) (cells : List ℕ) → Lines.best_table r m qs lines room cells ≡ best_table_then r m qs lines room cells
    unfolding Lines.best_table
    best-table-then room cells =
        rw (← refused_then room (length cells))
        (lent_same (best_refusal r m lines room (length cells)) (m * m) cells (λ z.
        let g = good room (length cells) z in
        named-table g.most (placed g)))

-- ---- a board, after the refusals r of its state

pub record AsBefore (b : Board) (r : Refusal) (m : ℕ) (qs lines : List ℕ) : Type 0 where
  pub quick : (room : ℕ) → quick_of b bare room ≡ shared b (quick_then r m qs lines room)
  pub quick-plan : (plan : List ℕ) → quick_buffer b bare plan ≡ quick_plan_then r m qs lines plan
  pub best : (room places : ℕ) → best_of b bare room places ≡ shared b (best_then r m qs lines room places)
  pub best-plan : (plan : List ℕ) (places : ℕ) → best_buffer b bare plan places ≡ best_plan_then r m qs lines plan places
  pub best-table : (room : ℕ) (cells : List ℕ) → best_table b bare room cells ≡ best_table_then r m qs lines room cells

-- NO MOUNTED TIP: EVERY ANSWER AS BEFORE
pub bare_as_before : (b : Board) → Full b → AsBefore b (state_refusal Closed b) b.rack (quantities_of b) (lines_of b)
unfolding quick_of quick_buffer best_of best_buffer best_table mounted_refusal
bare_as_before b full =
    let r = state_refusal Closed b in
    let m = b.rack in
    let qs = quantities_of b in
    let lines = lines_of b in
    let good : r.number ≡ 0 → GoodLines m qs lines = λ z. (ready Closed b full refl z).sound.good in
    record {
      quick = λ room. ap (shared b) (quick-then r m qs lines room);
      quick-plan = quick-plan-then r m qs lines;
      best = λ room places. ap (shared b) (best-then r m qs lines good room places);
      best-plan = best-plan-then r m qs lines good;
      best-table = best-table-then r m qs lines good;
    }

-- ---- a file, after the refusal r of reading

pub record FileAsBefore (file : List ℕ) (r : Refusal) (m : ℕ) (qs lines : List ℕ) : Type 0 where
  pub quick : (room : ℕ) → quick_in file bare room ≡ plan_outcome (quick_then r m qs lines room)
  pub quick-plan : (plan : List ℕ) → quick_plan_in file bare plan ≡ quick_plan_then r m qs lines plan
  pub best : (room places : ℕ) → best_in file bare room places ≡ plan_outcome (best_then r m qs lines room places)
  pub best-plan : (plan : List ℕ) (places : ℕ) → best_plan_in file bare plan places ≡ best_plan_then r m qs lines plan places
  pub best-table : (room : ℕ) (cells : List ℕ) → best_table_in file bare room cells ≡ best_table_then r m qs lines room cells

-- AND SO FOR FILES of either version
pub bare_files_as_before : (file : List ℕ) → FileAsBefore file (read_refusal file) (rack_in file) (quantities_in file) (sets_in file)
unfolding quick_in quick_plan_in best_in best_plan_in best_table_in mounted_refusal
bare_files_as_before file =
    let r = read_refusal file in
    let m = rack_in file in
    let qs = quantities_in file in
    let lines = sets_in file in
    let good : r.number ≡ 0 → GoodLines m qs lines = read_good file in
    record {
      quick = λ room. ap plan_outcome (quick-then r m qs lines room);
      quick-plan = quick-plan-then r m qs lines;
      best = λ room places. ap plan_outcome (best-then r m qs lines good room places);
      best-plan = best-plan-then r m qs lines good;
      best-table = best-table-then r m qs lines good;
    }

-- BEST SHARING HAS THE SAME PAIRS AND THE SAME TABLE FOR EVERY MOUNTED TIP
module _ (b : Board) (mounted : Mounted) (inside : is_outside b.rack mounted ≡ false) where
  no_refusal : mounted_refusal (state_refusal Closed b) b.rack mounted ≡ state_refusal Closed b
  no_refusal = sym (mounted_inside (state_refusal Closed b) b.rack mounted inside)

  pub mounted_pairs : (room places : ℕ) → best_of b mounted room places ≡ best_of b bare room places
  unfolding best_of mounted_refusal
  mounted_pairs room places = rw no_refusal refl

  pub mounted_table : (room : ℕ) (cells : List ℕ) → best_table b mounted room cells ≡ best_table b bare room cells
  unfolding best_table mounted_refusal
  mounted_table room cells = rw no_refusal refl
