-- TODAY'S CALLS ON LINES GIVE THE BASE'S ANSWERS, after the same earlier refusal: for lines of quantity 1 all of them, and best sharing for lines
-- that are unbroken runs, whatever their quantities.
use Prim.Native.Nat.{ℕ, ◌-◌, ◌*◌}
use mathlib.Core.Path.{◌≡◌, refl, sym, ap, ◌∙◌}
use mathlib.Core.List.{List, map}
use native.Mathlib.Omega.{arith}
use lib.Dec.{T}
use lib.ListN.{length, length-map}
use Rattle.model.specs.Count.{All}
use Rattle.model.specs.Plan.{pairs, Domain}
use Rattle.model.specs.Choice.{bare}
use Rattle.model.specs.CommonTip.{margin}
use Rattle.model.specs.Greedy.{quick_plan}
use Rattle.model.specs.Interval.{C}
use Rattle.model.specs.Before.{off_before, margin_before, prune_before, quick_before, is_run_before, C_before, best_tip_before, best_before}
use Rattle.model.proofs.Before.{top-before, W-before, margin-before, quick-before, C-before, best-before, table-before}
use Rattle.placements.specs.Repeated.{total, repeated}
use Rattle.placements.specs.Plans.{quick_plan_q, best_plan_q}
use Rattle.placements.specs.Keep.{prune_q}
use Rattle.placements.specs.Good.{GoodLines}
use Rattle.placements.proofs.Repeated.{length-repeated, repeated_ones, repeated-map, all-repeated}
use Rattle.placements.proofs.Plans.{quick_repeated, quick_ones, best-repeated, length-best}
use Rattle.placements.proofs.Ones.{prune_ones}
use Rattle.placements.proofs.Renumbered.{repeated_same}
use Rattle.refusal.specs.Told.{Refusal}
use Rattle.job.specs.Job.{line_length}
use Rattle.job.proofs.Writing.{version_one}
use Rattle.job.proofs.Before.{written-before}
use Rattle.call_refusals.specs.Calls.{keep_refusal, best_refusal, write_refusal}
use Rattle.call_refusals.specs.Before.{keep_refusal_before, best_refusal_before, write_refusal_before}
use Rattle.call_refusals.proofs.Calls.{keep-none, best_none}
use Rattle.call_refusals.proofs.Before.{keep-same, quick-same, best-same}
use Rattle.line_calls.specs.Lines
use Rattle.line_calls.proofs.KeepWithin.{not_negative}
use Rattle.board_laws.specs.Before.{common_lines, keep_lines, sets_lines, quick_lines, quick_plan_lines, best_lines, best_plan_lines}
use Rattle.board_laws.specs.Before.{best_table_lines, write_lines, written_lines}
use Rattle.board_laws.proofs.Ones.{lent_same, told_same}
use Rattle.board_laws.proofs.Format.{file-before}

-- ---- lines of quantity 1

module _ (r : Refusal) (m : ℕ) {qs : List ℕ} (ones : All (λ q. q ≡ 1) qs) (lines : List ℕ) (same : length qs ≡ length lines) where
  -- the placements are the lines
  placements : repeated qs lines ≡ lines
  placements = repeated_ones ones lines same

  all : total qs ≡ length lines
  all = sym (length-repeated qs lines same) ∙ ap length placements

  pub common-lines : Lines.common_of r m qs lines ≡ common_lines r m lines
  unfolding Lines.common_of off_before
  common-lines = rw (placements, all, top-before m lines, W-before m lines) refl

  -- ---- keep

  keep_refused : (k : ℕ) → keep_refusal r (margin m lines k) ≡ keep_refusal_before r (margin_before m lines k)
  keep_refused k = keep-same r (margin m lines k) ∙ ap (keep_refusal_before r) (margin-before m lines k)

  pub keep-lines : (k : ℕ) → Lines.keep_of r m qs lines k ≡ keep_lines r m lines k
  unfolding Lines.keep_of
  keep-lines k = rw (placements, keep_refused k, margin-before m lines k) refl

  -- where keep is accepted the margin is not below zero
  pub kept-lines : (k : ℕ) → (keep_refusal_before r (margin_before m lines k)).number ≡ 0 → prune_q m qs lines k ≡ prune_before m lines k
  kept-lines k z =
      prune_ones m ones lines same k
      (not_negative m lines k (keep-none r (margin m lines k) (ap (λ d. d.number) (keep_refused k) ∙ z)).1)

  pub sets-lines : (k : ℕ) (sets : List ℕ) → Lines.sets_kept r m qs lines k sets ≡ sets_lines r m lines k sets
  unfolding Lines.sets_kept
  sets-lines k sets =
      rw (placements, keep_refused k) (lent_same (keep_refusal_before r (margin_before m lines k)) (length lines) sets (kept-lines k))

  -- ---- quick sharing

  plan_same : quick_plan_q bare m qs lines ≡ quick_before m lines
  plan_same = quick_ones bare m ones lines same ∙ quick-before m lines

  pairs_same : pairs (repeated qs (quick_plan_q bare m qs lines)) ≡ pairs (quick_before m lines)
  pairs_same = ap pairs (quick_repeated bare m qs lines ∙ ap (quick_plan bare m) placements ∙ quick-before m lines)

  pub quick-lines : (room : ℕ) → Lines.quick_of r m bare qs lines room ≡ quick_lines r m lines room
  unfolding Lines.quick_of
  quick-lines room = rw (pairs_same, quick-same r (length lines) room) refl

  pub quick-plan-lines : (plan : List ℕ) → Lines.quick_buffer r m bare qs lines plan ≡ quick_plan_lines r m lines plan
  unfolding Lines.quick_buffer
  quick-plan-lines plan = rw (plan_same, quick-same r (length lines) (length plan)) refl

  -- ---- write

  pub write-lines : (room : ℕ) → Lines.write_of r qs lines room ≡ write_lines r lines room
  unfolding Lines.write_of write_refusal write_refusal_before line_length
  write-lines room = rw (version_one ones) refl

  pub written-lines : (out : List ℕ) → Lines.write_buffer r m qs lines out ≡ written_lines r m lines out
  unfolding Lines.write_buffer write_refusal write_refusal_before line_length
  written-lines out = rw (written-before m ones lines same, file-before m lines, version_one ones) refl

-- ---- lines that are unbroken runs

module _ (r : Refusal) {m : ℕ} {qs lines : List ℕ} (good : r.number ≡ 0 → GoodLines m qs lines)
    (unbroken : All (λ s. T (is_run_before s)) lines) where
  abbrev placed : List ℕ
  placed = repeated qs lines

  domains : GoodLines m qs lines → All (Domain m) placed
  domains g = all-repeated qs g.domains

  pub refused-lines : (room places : ℕ) → best_refusal r m lines room places ≡ best_refusal_before r m lines room places
  refused-lines = best-same r (λ z. ((good z).most, (good z).domains)) unbroken

  -- where best sharing is not refused the lines are good
  free : (room places : ℕ) → (best_refusal_before r m lines room places).number ≡ 0 → GoodLines m qs lines
  free room places z = good (best_none r m lines room places (ap (λ d. d.number) (refused-lines room places) ∙ z)).free

  C_same : GoodLines m qs lines → C placed 0 m ≡ C_before placed 0 m
  C_same g =
      let z : m - 0 ≡ m = omega arith in
      rw z at (C-before g.most (domains g) 0 m)

  laid_same : GoodLines m qs lines → best_plan_q bare m qs lines ≡ map (best_tip_before m placed 0 m) lines
  unfolding best_before
  laid_same g =
      let tip = best_tip_before m placed 0 m in
      repeated_same g.placed (best_plan_q bare m qs lines) (map tip lines)
      (omega (arith, g.same, length-best bare m qs lines))
      (omega (arith, g.same, length-map lines tip))
      (best-repeated bare m qs lines ∙ best-before g.most (domains g) (all-repeated qs unbroken) ∙ sym (repeated-map tip qs lines))

  pub best-lines : (room places : ℕ) → Lines.best_of r m qs lines room places ≡ best_lines r m placed lines room places
  unfolding Lines.best_of
  best-lines room places =
      let d = best_refusal_before r m lines room places in
      rw (refused-lines room places) (ap (λ n. record { refusal = d; pairs = n }) (told_same d (λ z. C_same (free room places z))))

  pub best-plan-lines : (plan : List ℕ) (places : ℕ) → Lines.best_buffer r m bare qs lines plan places ≡ best_plan_lines r m placed lines plan places
  unfolding Lines.best_buffer
  best-plan-lines plan places =
      rw (refused-lines (length plan) places)
      (lent_same (best_refusal_before r m lines (length plan) places) (length lines) plan (λ z. laid_same (free (length plan) places z)))

  pub best-table-lines : (room : ℕ) (cells : List ℕ) → Lines.best_table r m qs lines room cells ≡ best_table_lines r m placed lines room cells
  unfolding Lines.best_table
  best-table-lines room cells =
      rw (refused-lines room (length cells))
      (lent_same (best_refusal_before r m lines room (length cells)) (m * m) cells (λ z.
      let g = free room (length cells) z in
      table-before g.most (domains g)))
