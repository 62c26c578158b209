-- The rules of the base: each line is one placement, no tip is mounted, a run is unbroken, and any tip of an interval may be chosen. They are written
-- for themselves, so that a change of today's rules shows: both share the tips of a set, counts, pairs, plans and functions of lists, and no rule.
-- For laws that say 'as before': no call's contract speaks of these.
use Rattle.std.specs.Prelude.{ℕ, zero, suc, ◌+◌, ◌*◌, ◌-◌, ◌/◌, ◌%◌, ◌≤◌, ◌<◌, ◌≡◌, ◌↔◌, max, Bool, false, not, cond, ◌&&◌, ◌||◌}
use Rattle.std.specs.Prelude.{List, [], ◌∷◌, map, T, ltb, leb, eqb, ℤ, pos, negsuc, ◌+ℤ◌, ◌-ℤ◌, length, get_or}
use Rattle.model.specs.Count.{All, count, select, each, list_of}
use Rattle.model.specs.Plan.{has, occ, choose2, Domain, Valid}
use Rattle.model.specs.CommonTip.{off, Within}

-- the numbers below m, rising
abbrev pub numbers : ℕ → List ℕ
numbers m = list_of (λ t. t) m

-- the largest of f 0 to f (m - 1); 0 for m = 0
unfoldable pub greatest : (ℕ → ℕ) → ℕ → ℕ
greatest f zero = 0
greatest f (suc m) = max (f 0) (greatest (λ t. f (suc t)) m)

-- the lowest number below m that passes the test; m where none does
unfoldable pub lowest_of : (ℕ → Bool) → ℕ → ℕ
lowest_of f zero = 0
lowest_of f (suc m) = cond (f 0) 0 (suc (lowest_of (λ t. f (suc t)) m))

-- the highest number below m that passes the test; 0 where none does
unfoldable pub highest_of : (ℕ → Bool) → ℕ → ℕ
highest_of f zero = 0
highest_of f (suc m) = cond (f m) m (highest_of f m)

-- the set of the tips below m that pass the test
unfoldable pub bits_of : (ℕ → Bool) → ℕ → ℕ
bits_of f zero = 0
bits_of f (suc m) = cond (f 0) 1 0 + 2 * bits_of (λ t. f (suc t)) m

-- ---- common tip and keep

-- the most lines that allow one tip
unfoldable pub top_before : ℕ → List ℕ → ℕ
top_before m lines = greatest (occ lines) m

-- the least number of lines off the common tip
unfoldable pub off_before : ℕ → List ℕ → ℕ
off_before m lines = length lines - top_before m lines

-- the set W: the tips in some line that as many lines allow as top
unfoldable pub W_before : ℕ → List ℕ → ℕ
W_before m lines = bits_of (λ t. ltb 0 (occ lines t) && eqb (occ lines t) (top_before m lines)) m

unfoldable pub margin_before : ℕ → List ℕ → ℕ → ℤ
margin_before m lines k = pos (top_before m lines) -ℤ pos (length lines) +ℤ pos k

unfoldable pub is_zero : ℤ → Bool
is_zero (pos n) = eqb n 0
is_zero (negsuc n) = false

-- the set s has each tip of w, which are below m
unfoldable pub has_all : ℕ → ℕ → ℕ → Bool
has_all m s w = each (λ t. not (has w t) || has s t) (numbers m)

-- at margin zero a line that has all of W keeps only W; other lines are unchanged, and above zero nothing changes
unfoldable pub kept_before : ℕ → List ℕ → ℕ → ℕ → ℕ
kept_before m lines k s =
    let w = W_before m lines in
    cond (is_zero (margin_before m lines k) && has_all m s w) w s

unfoldable pub prune_before : ℕ → List ℕ → ℕ → List ℕ
prune_before m lines k = map (kept_before m lines k) lines

-- what keep promised: some valid plan within k has line i on tip t, t is consistent for line i
abbrev pub Supported : ℕ → List ℕ → ℕ → ℕ → ℕ → Type 0
Supported m lines k i t = (plan : List ℕ) × Valid lines plan × Within m k plan × (get_or plan i 0 ≡ t)

-- some valid plan has d lines off the tip that it uses most, and no valid plan has fewer
pub record LeastOff (m : ℕ) (lines : List ℕ) (d : ℕ) : Type 0 where
  pub reached : (plan : List ℕ) × Valid lines plan × (off m plan ≡ d)
  pub least : {plan : List ℕ} → Valid lines plan → d ≤ off m plan

-- the pruned sets are subsets of the lines' sets, not empty, and hold the consistent tips and no other
pub record Exact (m : ℕ) (lines : List ℕ) (k : ℕ) (pruned : List ℕ) : Type 0 where
  pub same_length : length pruned ≡ length lines
  pub domains : All (Domain m) pruned
  pub own : (i t : ℕ) → i < length lines → T (has (get_or pruned i 0) t) → T (has (get_or lines i 0) t)
  pub exact : (i t : ℕ) → i < length lines → T (has (get_or pruned i 0) t) ↔ Supported m lines k i t

-- ---- quick sharing

-- the tip that most of the lines left allow, the lowest on a tie
unfoldable pub busiest_before : ℕ → List ℕ → ℕ
busiest_before m left = lowest_of (λ t. eqb (occ left t) (greatest (occ left) m)) m

-- the tip of the line s, where each round plans all lines left that allow its tip, until no line is left; k bounds the rounds
unfoldable pub quick_tip_before : ℕ → ℕ → List ℕ → ℕ → ℕ
quick_tip_before zero m left s = 0
quick_tip_before (suc k) m [] s = 0
quick_tip_before (suc k) m (x ∷ left) s =
    let t = busiest_before m (x ∷ left) in
    cond (has s t) t (quick_tip_before k m (select (λ y. not (has y t)) (x ∷ left)) s)

-- each round plans a line, so as many rounds as lines are enough
unfoldable pub quick_before : ℕ → List ℕ → List ℕ
quick_before m lines = map (quick_tip_before (length lines) m lines) lines

-- ---- best sharing: an interval has a first tip a, and ends before tip e

-- the lowest and the highest tip of a set that is not empty
unfoldable pub low_before : ℕ → ℕ
low_before s = lowest_of (has s) 64

unfoldable pub high_before : ℕ → ℕ
high_before s = highest_of (has s) 64

-- a run: the distance from its lowest tip to its highest, plus one, is the number of its tips
unfoldable pub is_run_before : ℕ → Bool
is_run_before s = eqb (high_before s - low_before s + 1) (count (has s) (numbers 64))

-- how many of the lines lying within the interval allow tip c
unfoldable pub taken_by : List ℕ → ℕ → ℕ → ℕ → ℕ
taken_by lines a e c = count (λ s. (leb a (low_before s) && ltb (high_before s) e) && has s c) lines

-- the pairs of the interval if tip c takes its lines: those on it, and by the table D those of the intervals beside it
abbrev pub pairs_by : (ℕ → ℕ → ℕ) → List ℕ → ℕ → ℕ → ℕ → ℕ
pairs_by D lines a e c = choose2 (taken_by lines a e c) + (D a c + D (c + 1) e)

-- the largest of these over every tip of the interval, 0 where it has none; k bounds its width
unfoldable pub most_before : ℕ → List ℕ → ℕ → ℕ → ℕ
most_before zero lines a e = 0
most_before (suc k) lines a e = greatest (λ i. pairs_by (most_before k lines) lines a e (a + i)) (e - a)

-- C of the interval
unfoldable pub C_before : List ℕ → ℕ → ℕ → ℕ
C_before lines a e = most_before (e - a) lines a e

-- the lowest tip of the interval that attains C
unfoldable pub pick_before : List ℕ → ℕ → ℕ → ℕ
pick_before lines a e = a + lowest_of (λ i. eqb (pairs_by (C_before lines) lines a e (a + i)) (C_before lines a e)) (e - a)

-- the tip of a line s of the interval: its pick takes all lines that allow it, and the intervals beside the pick follow; k bounds its width
unfoldable pub best_tip_before : ℕ → List ℕ → ℕ → ℕ → ℕ → ℕ
best_tip_before zero lines a e s = 0
best_tip_before (suc k) lines a e s =
    let c = pick_before lines a e in
    cond (has s c) c (cond (ltb (high_before s) c) (best_tip_before k lines a c s) (best_tip_before k lines (c + 1) e s))

unfoldable pub best_before : ℕ → List ℕ → List ℕ
best_before m lines = map (best_tip_before m lines 0 m) lines

-- C of the interval from tip a to tip b at place a * m + b; 0 below the diagonal
unfoldable pub table_before : ℕ → List ℕ → List ℕ
table_before m lines = list_of (λ k. C_before lines (k / m) (k % m + 1)) (m * m)
