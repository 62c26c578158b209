-- Both plans as they were before a tip could be mounted, for placements, with the refusals of best sharing: the lowest of the tied tips is taken, and
-- in best sharing of the tied named tips. They are written for themselves, over the base's own functions, so that a change of today's rules shows.
-- For laws that say 'as before': no call's contract speaks of these.
use Rattle.std.specs.Prelude.{ℕ, zero, suc, ◌+◌, ◌*◌, ◌-◌, ◌/◌, ◌%◌, Bool, not, cond, ◌&&◌, List, map, ltb, leb, eqb, length}
use Rattle.model.specs.Count.{count, list_of}
use Rattle.model.specs.Plan.{has, occ, pairs}
use Rattle.model.specs.Before.{numbers, greatest, lowest_of, quick_tip_before, low_before, high_before, pairs_by}
use Rattle.placements.specs.Repeated.{repeated}
use Rattle.refusal.specs.Told.{Refusal}
use Rattle.refusal.specs.Refusal.{or_else, when, scan, lent_by}
use Rattle.call_refusals.specs.Before.{quick_refusal_before}
use Rattle.line_calls.specs.Answers.{PlanAnswer}
use Rattle.board_laws.specs.Before.{pairs_lines}

-- ---- the refusals: 25 tells the first line that misses a named tip between its ends

-- tip c is named, between the lowest and the highest tip of s, and not in s
unfoldable pub lacks_named : List ℕ → ℕ → ℕ → Bool
lacks_named lines s c = ltb 0 (occ lines c) && ((leb (low_before s) c && leb c (high_before s)) && not (has s c))

-- a run: the set has every named tip between its ends
unfoldable pub is_named_run : List ℕ → ℕ → Bool
is_named_run lines s = eqb (count (lacks_named lines s) (numbers 64)) 0

-- best sharing, after the refusal of the board's state
unfoldable pub best_refusal_unmounted : Refusal → ℕ → List ℕ → ℕ → ℕ → Refusal
best_refusal_unmounted earlier m lines room places =
    or_else (quick_refusal_before earlier (length lines) room) (or_else (when (ltb places (m * m)) 5) (scan (is_named_run lines) (λ _. 25) lines))

-- ---- the plans

-- each line on the tip of the round that takes it, where the rounds count placements
unfoldable pub quick_unmounted : ℕ → List ℕ → List ℕ → List ℕ
quick_unmounted m qs sets =
    let placements = repeated qs sets in
    map (quick_tip_before (length placements) m placements) sets

-- the most pairs of the interval from tip a to the tip before e: the largest over its named tips, 0 where it has none; k bounds its width
unfoldable pub named_most : ℕ → List ℕ → ℕ → ℕ → ℕ
named_most zero lines a e = 0
named_most (suc k) lines a e = greatest (λ i. cond (ltb 0 (occ lines (a + i))) (pairs_by (named_most k lines) lines a e (a + i)) 0) (e - a)

unfoldable pub named_C : List ℕ → ℕ → ℕ → ℕ
named_C lines a e = named_most (e - a) lines a e

-- the lowest named tip of the interval that attains them; e where it has no named tip
unfoldable pub named_pick : List ℕ → ℕ → ℕ → ℕ
named_pick lines a e =
    a + lowest_of (λ i. ltb 0 (occ lines (a + i)) && eqb (pairs_by (named_C lines) lines a e (a + i)) (named_C lines a e)) (e - a)

-- the tip of a line s of the interval: the pick takes all lines that allow it, and the intervals beside it follow; k bounds its width
unfoldable pub named_tip : ℕ → List ℕ → ℕ → ℕ → ℕ → ℕ
named_tip zero lines a e s = 0
named_tip (suc k) lines a e s =
    let c = named_pick lines a e in
    cond (has s c) c (cond (ltb (high_before s) c) (named_tip k lines a c s) (named_tip k lines (c + 1) e s))

-- each line on its tip, where pairs are of placements
unfoldable pub best_unmounted : ℕ → List ℕ → List ℕ → List ℕ
best_unmounted m qs sets = map (named_tip m (repeated qs sets) 0 m) sets

-- the table: the most pairs of the interval from tip a to tip b at place a * m + b; 0 below the diagonal
unfoldable pub named_table : ℕ → List ℕ → List ℕ
named_table m lines = list_of (λ k. named_C lines (k / m) (k % m + 1)) (m * m)

-- ---- what they answered and left, after an earlier refusal

abbrev pub quick_then : Refusal → ℕ → List ℕ → List ℕ → ℕ → PlanAnswer
quick_then r m qs lines room = pairs_lines (quick_refusal_before r (length lines) room) (pairs (repeated qs (quick_unmounted m qs lines)))

abbrev pub quick_plan_then : Refusal → ℕ → List ℕ → List ℕ → List ℕ → List ℕ
quick_plan_then r m qs lines plan = lent_by (quick_refusal_before r (length lines) (length plan)) (length lines) (quick_unmounted m qs lines) plan

abbrev pub best_then : Refusal → ℕ → List ℕ → List ℕ → ℕ → ℕ → PlanAnswer
best_then r m qs lines room places = pairs_lines (best_refusal_unmounted r m lines room places) (named_C (repeated qs lines) 0 m)

abbrev pub best_plan_then : Refusal → ℕ → List ℕ → List ℕ → List ℕ → ℕ → List ℕ
best_plan_then r m qs lines plan places =
    lent_by (best_refusal_unmounted r m lines (length plan) places) (length lines) (best_unmounted m qs lines) plan

abbrev pub best_table_then : Refusal → ℕ → List ℕ → List ℕ → ℕ → List ℕ → List ℕ
best_table_then r m qs lines room cells =
    lent_by (best_refusal_unmounted r m lines room (length cells)) (m * m) (named_table m (repeated qs lines)) cells
