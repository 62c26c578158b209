-- Boards whose lines all have quantity 1: each answer is given by today's definitions over the lines alone. Before has the base's own rules.
use Prim.Native.Nat.{ℕ, ◌+◌, ◌*◌, ◌-◌}
use mathlib.Core.Path.{◌≡◌, refl, sym, ap, ◌∙◌}
use mathlib.Core.Bool.{Bool, true, false, not, cond}
use mathlib.Core.List.{List, ◌++◌}
use native.Mathlib.Omega.{arith}
use lib.Dec.{eqb}
use lib.IntN.{pos}
use lib.ListN.{length, drop, length-take}
use borrow.Author.Tests.{eqb-true, le-ltb}
use Rattle.model.specs.Count.{All}
use Rattle.model.specs.Plan.{is_empty, in_rack, pairs}
use Rattle.model.specs.Limits.{most_lines, most_placements}
use Rattle.model.specs.Choice.{bare}
use Rattle.model.specs.CommonTip.{top, W, margin}
use Rattle.model.specs.Before.{prune_before}
use Rattle.model.specs.Greedy.{quick_plan}
use Rattle.model.specs.Interval.{C, best_plan, table}
use Rattle.placements.specs.Repeated.{total, repeated}
use Rattle.placements.specs.Plans.{quick_plan_q, best_plan_q}
use Rattle.placements.specs.Keep.{prune_q}
use Rattle.placements.proofs.Repeated.{length-repeated, repeated_ones}
use Rattle.placements.proofs.Plans.{quick_repeated, quick_ones, best_ones}
use Rattle.placements.proofs.Ones.{prune_ones}
use Rattle.refusal.specs.Told.{Refusal}
use Rattle.refusal.specs.Refusal.{none, refuse, accepts, or_else, when, told, lent_by}
use Rattle.refusal.proofs.Laws.{or_same}
use Rattle.job.specs.Job.{file_length, line_number}
use Rattle.job.specs.Before.{plain_file_of}
use Rattle.job.proofs.Writing.{version_one}
use Rattle.job.proofs.Before.{written-before}
use Rattle.call_refusals.specs.declared.Stage.TheVariants.{Open, Closed}
use Rattle.call_refusals.specs.Calls.{add_refusal, keep_refusal, mounted_refusal, plan_refusal, best_refusal, write_refusal}
use Rattle.call_refusals.proofs.Calls.{keep-none}
use Rattle.call_refusals.proofs.Before.{or_last}
use Rattle.line_calls.specs.Lines
use Rattle.line_calls.specs.Lines.{plan_answer}
use Rattle.line_calls.proofs.KeepWithin.{not_negative}
use Rattle.board.specs.declared.Board.{Board}
use Rattle.board.specs.Answers.{Answer}
use Rattle.board.specs.Answers.{Common}
use Rattle.board.specs.Answers.{Kept}
use Rattle.board.specs.Answers.{Written}
use Rattle.board.specs.Board.{lines_of, quantities_of, state_refusal, answer, with_line, add_of}
use Rattle.board.specs.Common.{common_of, keep_of}
use Rattle.board.specs.Sharing.{shared, quick_of, quick_buffer, best_of, best_buffer, best_table}
use Rattle.board.specs.JobFile.{write_of, write_buffer}
use Rattle.board.proofs.Sets.{Full, same_size, ready, lines-count}

-- ---- the answers for the sets of the lines alone, after the state's refusal

-- a full board, then an empty set, then a tip outside the rack
abbrev pub added_before : Board → Refusal → ℕ → Answer
added_before b r s =
    let line : ℕ = cond (is_empty s) 2 (cond (not (in_rack b.rack s)) 3 0) in
    let d = or_else r (or_else (when (eqb b.count most_lines) 24) (refuse line)) in
    cond (accepts d) (answer (with_line b s 1) none) (answer b d)

abbrev pub common_before : Board → Refusal → ℕ → List ℕ → Common
common_before b r m lines =
    let most = top m lines in
    record { board = b; number = r.number; place = r.place; top = told r most; off = told r (length lines - most); tips = told r (W m lines) }

abbrev pub kept_before : Board → Refusal → ℕ → List ℕ → ℕ → Kept
kept_before b r m lines k =
    let z = margin m lines k in
    let d = keep_refusal r z in
    let sets = lent_by d (length lines) (prune_before m lines k) b.sets in
    let board : Board = record { rack = b.rack; stage = b.stage; count = b.count; sets = sets; quantities = b.quantities } in
    record { board = board; number = d.number; place = d.place; margin = cond (accepts r) z (pos 0) }

abbrev pub written_before : Board → Refusal → List ℕ → ℕ → Written
written_before b r lines room =
    let d = write_refusal r 1 (length lines) room in
    record { board = b; number = d.number; place = d.place; bytes = told d (file_length 1 (length lines)) }

-- each call answers and leaves what it did for lines without quantities; a line is added with quantity 1
pub record AsBefore (b : Board) (r : Refusal) (m : ℕ) (lines : List ℕ) : Type 0 where
  pub add : (s : ℕ) → add_of b s 1 ≡ added_before b (state_refusal Open b) s
  pub common-tip : common_of b ≡ common_before b r m lines
  pub keep : (k : ℕ) → keep_of b k ≡ kept_before b r m lines k
  pub quick : (room : ℕ) → quick_of b bare room ≡ shared b (plan_answer (plan_refusal r (length lines) room) (pairs (quick_plan bare m lines)))
  pub quick-plan : (plan : List ℕ)
      → quick_buffer b bare plan ≡ lent_by (plan_refusal r (length lines) (length plan)) (length lines) (quick_plan bare m lines) plan
  pub best : (room places : ℕ) → best_of b bare room places ≡ shared b (plan_answer (best_refusal r m lines room places) (C lines 0 m))
  pub best-plan : (plan : List ℕ) (places : ℕ)
      → best_buffer b bare plan places ≡ lent_by (best_refusal r m lines (length plan) places) (length lines) (best_plan bare m lines) plan
  pub best-table : (room : ℕ) (cells : List ℕ)
      → best_table b bare room cells ≡ lent_by (best_refusal r m lines room (length cells)) (m * m) (table m lines) cells
  pub write : (room : ℕ) → write_of b room ≡ written_before b r lines room
  pub write-file : (out : List ℕ)
      → write_buffer b out ≡ lent_by (write_refusal r 1 (length lines) (length out)) (file_length 1 (length lines)) (plain_file_of m lines) out

-- what is left in a buffer counts only where nothing is refused
pub lent_same : (d : Refusal) (n : ℕ) {new new' : List ℕ} (old : List ℕ) → (d.number ≡ 0 → new ≡ new') → lent_by d n new old ≡ lent_by d n new' old
lent_same d n {new} {new'} old h = by (accepts d) refl
  where
    by : (t : Bool) → accepts d ≡ t → cond t (new ++ drop n old) old ≡ cond t (new' ++ drop n old) old
    by true e = ap (λ l. l ++ drop n old) (h (eqb-true d.number 0 e))
    by false e = refl

-- and so does what is returned
pub told_same : (d : Refusal) {x y : ℕ} → (d.number ≡ 0 → x ≡ y) → told d x ≡ told d y
told_same d {x} {y} h = by (accepts d) refl
  where
    by : (t : Bool) → accepts d ≡ t → cond t x 0 ≡ cond t y 0
    by true e = h (eqb-true d.number 0 e)
    by false e = refl

module _ (b : Board) (full : Full b) (ones : All (λ q. q ≡ 1) (quantities_of b)) where
  abbrev m : ℕ
  m = b.rack

  abbrev qs : List ℕ
  qs = quantities_of b

  abbrev lines : List ℕ
  lines = lines_of b

  -- a quantity for each line, so the placements are the lines
  same : length qs ≡ length lines
  same = omega (arith, same_size b full, length-take b.count b.quantities, length-take b.count b.sets)

  placements : repeated qs lines ≡ lines
  placements = repeated_ones ones lines same

  all : total qs ≡ length lines
  all = sym (length-repeated qs lines same) ∙ ap length placements

  -- with one line more a board that is not full has at most 512 placements
  add_before : (s : ℕ) → add_of b s 1 ≡ added_before b (state_refusal Open b) s
  unfolding add_of add_refusal line_number
  add_before s =
      let r = state_refusal Open b in
      let n = line_number m s 1 in
      ap (λ d. cond (accepts d) (answer (with_line b s 1) none) (answer b d)) (or_same r (λ z.
      let known = ready Open b full refl z in
      let few = le-ltb most_placements (total qs + 1) (omega (arith, all, lines-count Open b full known, known.sound.count_most)) in
      ap (or_else (when (eqb b.count most_lines) 24)) (ap (λ t. or_else (refuse n) (when t 30)) few ∙ or_last n)))

  quick_same : quick_plan_q bare m qs lines ≡ quick_plan bare m lines
  quick_same = quick_ones bare m ones lines same

  best_same : best_plan_q bare m qs lines ≡ best_plan bare m lines
  best_same = best_ones bare m ones lines same

  -- where keep is accepted the margin is not below zero
  kept_same : (r : Refusal) (k : ℕ) → (keep_refusal r (margin m lines k)).number ≡ 0 → prune_q m qs lines k ≡ prune_before m lines k
  kept_same r k z = prune_ones m ones lines same k (not_negative m lines k (keep-none r (margin m lines k) z).1)

  keep-before : (k : ℕ) → keep_of b k ≡ kept_before b (state_refusal Closed b) m lines k
  unfolding keep_of Lines.keep_of Lines.sets_kept
  keep-before k =
      let r = state_refusal Closed b in
      let d = keep_refusal r (margin m lines k) in
      rw (placements, lent_same d (length lines) b.sets (kept_same r k)) refl

  -- the pairs of placements are those of lines
  quick-pairs : pairs (repeated qs (quick_plan_q bare m qs lines)) ≡ pairs (quick_plan bare m lines)
  quick-pairs = ap pairs (quick_repeated bare m qs lines ∙ ap (quick_plan bare m) placements)

  pub ones_as_before : AsBefore b (state_refusal Closed b) m lines
  unfolding common_of quick_of quick_buffer best_of best_buffer best_table write_of write_buffer Lines.common_of Lines.quick_of Lines.quick_buffer
      Lines.best_of Lines.best_buffer Lines.best_table Lines.write_of Lines.write_buffer mounted_refusal
  ones_as_before = record {
    add = add_before;
    common-tip = rw (placements, all) refl;
    keep = keep-before;
    quick = λ room. rw quick-pairs refl;
    quick-plan = λ plan. rw quick_same refl;
    best = λ room places. rw placements refl;
    best-plan = λ plan places. rw best_same refl;
    best-table = λ room cells. rw placements refl;
    write = λ room. rw (version_one ones) refl;
    write-file = λ out. rw (written-before m ones lines same, version_one ones) refl;
  }
