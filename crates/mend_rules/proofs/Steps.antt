-- One line more: laws for a loop over the lines read, whose state is the running total, the bytes written and the report so far.
use Prim.Native.Nat.{ℕ, suc, ◌+◌, ◌≤◌, ◌<◌}
use native.Mathlib.Omega.{arith}
use native.Mathlib.Numerals.{add-one}
use mathlib.Core.Path.{◌≡◌, refl, sym, ap, ◌∙◌}
use mathlib.Core.Bool.{Bool, true, false, cond}
use mathlib.Core.List.{List, [], ◌∷◌, ◌++◌, append_assoc, append-nil}
use lib.ListN.{length, take, get_or, length-append}
use lib.Seq.{take-suc, length-take-le}
use Rattle.model.specs.Count.{select}
use Rattle.model.specs.Limits.{most_placements}
use Rattle.placements.specs.Repeated.{total}
use Rattle.job.specs.Job.{bytes_of, JobLine, line_of, bytes_of_lines}
use Rattle.job.proofs.Lines.{lines-append}
use Rattle.mend_rules.specs.Mending.{mended_line, left_empty, after, stays, noted, codes, running, kept, on_line, changes, bytes_of_changes}
use Rattle.mend_rules.specs.Rules.{placements_of, mended_lines, no_line}
use Rattle.mend_rules.proofs.Kept.{Fate, late, bare, passing, fitting, fate}

-- ---- one list after the other

pub report_append : (xs ys : List (ℕ × ℕ)) → bytes_of_changes (xs ++ ys) ≡ bytes_of_changes xs ++ bytes_of_changes ys
unfolding bytes_of_changes
report_append [] ys = refl
report_append (c ∷ xs) ys =
    ap (λ b. bytes_of 2 c.0 ++ bytes_of 1 c.1 ++ b) (report_append xs ys)
    ∙ sym (append_assoc (bytes_of 2 c.0 ++ bytes_of 1 c.1) (bytes_of_changes xs) (bytes_of_changes ys))

module _ (m : ℕ) where
  running-append : (t : ℕ) (xs ys : List JobLine) → running m t (xs ++ ys) ≡ running m (running m t xs) ys
  unfolding running
  running-append t [] ys = refl
  running-append t (l ∷ xs) ys = running-append (after m t l) xs ys

  pub kept_append : (t : ℕ) (xs ys : List JobLine) → kept m t (xs ++ ys) ≡ kept m t xs ++ kept m (running m t xs) ys
  unfolding running kept
  kept_append t [] ys = refl
  kept_append t (l ∷ xs) ys = by (stays m t l) (kept_append (after m t l) xs ys)
    where
      by : (b : Bool) → kept m (after m t l) (xs ++ ys) ≡ kept m (after m t l) xs ++ kept m (running m (after m t l) xs) ys
          → noted b (mended_line m l) (kept m (after m t l) (xs ++ ys))
          ≡ noted b (mended_line m l) (kept m (after m t l) xs) ++ kept m (running m (after m t l) xs) ys
      by true e = ap (λ k. mended_line m l ∷ k) e
      by false e = e

  pub changes-append : (i t : ℕ) (xs ys : List JobLine) → changes m i t (xs ++ ys) ≡ changes m i t xs ++ changes m (i + length xs) (running m t xs) ys
  unfolding running changes
  changes-append i t [] ys = let e : i + 0 ≡ i = omega arith in rw e
  changes-append i t (l ∷ xs) ys =
      let cs = on_line i (codes m t l) in
      let e : suc i + length xs ≡ i + suc (length xs) = omega arith in
      ap (λ k. cs ++ k) (changes-append (suc i) (after m t l) xs ys
      ∙ ap (λ k. changes m (suc i) (after m t l) xs ++ changes m k (running m (after m t l) xs) ys) e)
      ∙ sym (append_assoc cs (changes m (suc i) (after m t l) xs) (changes m (i + suc (length xs)) (running m (after m t l) xs) ys))

  -- ---- the first i + 1 lines: the first i, and line i

  module _ (lines : List JobLine) (i : ℕ) (h : i < length lines) where
    -- line i, and the running total before it
    abbrev pub here : JobLine
    here = get_or lines i no_line

    abbrev pub before : ℕ
    before = running m 0 (take i lines)

    one_more : take (i + 1) lines ≡ take i lines ++ here ∷ []
    one_more = ap (λ k. take k lines) (add-one i) ∙ take-suc lines i no_line h

    pub running_more : running m 0 (take (i + 1) lines) ≡ after m before here
    unfolding running
    running_more = ap (running m 0) one_more ∙ running-append 0 (take i lines) (here ∷ [])

    kept_more : kept m 0 (take (i + 1) lines) ≡ kept m 0 (take i lines) ++ noted (stays m before here) (mended_line m here) []
    unfolding kept
    kept_more = ap (kept m 0) one_more ∙ kept_append 0 (take i lines) (here ∷ [])

    -- one line more is counted, and written, where it stays
    pub length-kept-more : length (kept m 0 (take (i + 1) lines)) ≡ length (kept m 0 (take i lines)) + cond (stays m before here) 1 0
    length-kept-more = ap length kept_more ∙ length-append (kept m 0 (take i lines)) _ ∙ by (stays m before here)
      where
        by : (b : Bool) → length (kept m 0 (take i lines)) + length (noted b (mended_line m here) []) ≡ length (kept m 0 (take i lines)) + cond b 1 0
        by true = refl
        by false = refl

    pub written-more : (v : ℕ) → bytes_of_lines v (kept m 0 (take (i + 1) lines))
        ≡ bytes_of_lines v (kept m 0 (take i lines)) ++ cond (stays m before here) (line_of v (mended_line m here)) []
    unfolding bytes_of_lines
    written-more v = ap (bytes_of_lines v) kept_more ∙ lines-append v (kept m 0 (take i lines)) _
        ∙ ap (λ b. bytes_of_lines v (kept m 0 (take i lines)) ++ b) (by (stays m before here))
      where
        by : (b : Bool) → bytes_of_lines v (noted b (mended_line m here) []) ≡ cond b (line_of v (mended_line m here)) []
        by true = append-nil (line_of v (mended_line m here))
        by false = refl

    -- the report is longer by the codes of line i
    pub report_more : bytes_of_changes (changes m 0 0 (take (i + 1) lines))
        ≡ bytes_of_changes (changes m 0 0 (take i lines)) ++ bytes_of_changes (on_line i (codes m before here))
    unfolding changes
    report_more =
        let old = changes m 0 0 (take i lines) in
        let e : 0 + length (take i lines) ≡ i = omega (arith, length-take-le i lines (omega arith)) in
        ap (λ k. bytes_of_changes (changes m 0 0 k)) one_more
        ∙ ap bytes_of_changes (changes-append 0 0 (take i lines) (here ∷ [])
        ∙ ap (λ k. old ++ k) (append-nil (on_line (0 + length (take i lines)) (codes m before here))
        ∙ ap (λ k. on_line k (codes m before here)) e))
        ∙ report_append old (on_line i (codes m before here))

  -- ---- the running total, against that of all mended lines

  -- it stays once a line was dropped for it
  running_late : (t : ℕ) (lines : List JobLine) → most_placements < t → running m t lines ≡ t
  unfolding running
  running_late t [] h = refl
  running_late t (l ∷ lines) h = by (fate m t l) (running_late t lines h)
    where
      by : Fate m t l → running m t lines ≡ t → running m (after m t l) lines ≡ t
      by (late k a _) r = rw a r
      by (bare k _ _ _) r = absurd (omega arith)
      by (passing k _ _ _ _) r = absurd (omega arith)
      by (fitting k _ _ _ _) r = absurd (omega arith)

  -- it is that of all mended lines, and passes 2,048 exactly where theirs does
  pub running-placed : (t : ℕ) (lines : List JobLine) → t + placements_of (mended_lines m lines) ≤ most_placements → running m t lines
      ≡ t + placements_of (mended_lines m lines)
  unfolding running total select left_empty
  running-placed t [] h = omega arith
  running-placed t (l ∷ lines) h = by (fate m t l) h (running-placed t lines) (running-placed (t + (mended_line m l).quantity) lines)
    where
      q : ℕ
      q = (mended_line m l).quantity

      by : Fate m t l → t + placements_of (mended_lines m (l ∷ lines)) ≤ most_placements
          → (t + placements_of (mended_lines m lines) ≤ most_placements → running m t lines ≡ t + placements_of (mended_lines m lines))
          → (t + q + placements_of (mended_lines m lines) ≤ most_placements → running m (t + q) lines ≡ t + q + placements_of (mended_lines m lines))
          → running m (after m t l) lines ≡ t + placements_of (mended_lines m (l ∷ lines))
      by (late k a s) u r f = absurd (omega arith)
      by (bare k e a s) u r f = rw (a, e) (r (rw e at u))
      by (passing k e p a s) u r f = absurd (omega (arith, rw e at u))
      by (fitting k e p a s) u r f = rw (a, e) (f (omega (arith, rw e at u)) ∙ omega arith)

  pub running_passed : (t : ℕ) (lines : List JobLine) → most_placements < t + placements_of (mended_lines m lines) →
      most_placements < running m t lines
  unfolding running total select left_empty
  running_passed t [] h = omega arith
  running_passed t (l ∷ lines) h = by (fate m t l) h (running_passed t lines) (running_passed (t + (mended_line m l).quantity) lines)
    where
      q : ℕ
      q = (mended_line m l).quantity

      by : Fate m t l → most_placements < t + placements_of (mended_lines m (l ∷ lines))
          → (most_placements < t + placements_of (mended_lines m lines) → most_placements < running m t lines)
          → (most_placements < t + q + placements_of (mended_lines m lines) → most_placements < running m (t + q) lines)
          → most_placements < running m (after m t l) lines
      by (late k a s) u r f = rw a (omega (arith, running_late t lines k))
      by (bare k e a s) u r f = rw a (r (rw e at u))
      by (passing k e p a s) u r f = rw a (omega (arith, running_late (t + q) lines p))
      by (fitting k e p a s) u r f = rw a (f (omega (arith, rw e at u)))
