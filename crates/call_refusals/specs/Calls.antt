-- What each call asks after an earlier refusal: that of the board's state, or that of the job file that was read.
use Rattle.std.specs.Prelude.{ℕ, ◌+◌, ◌*◌, Bool, true, false, cond, List, eqb, ltb, leb, ℤ, pos, negsuc, length}
use Rattle.model.specs.Limits.{most_lines, most_placements}
use Rattle.model.specs.Choice.{Mounted, bare, tip}
use Rattle.model.specs.Interval.{named, is_run_of}
use Rattle.refusal.specs.Told.{Refusal}
use Rattle.refusal.specs.Refusal.{refuse, or_else, when, scan}
use Rattle.job.specs.Job.{file_length, line_number}

-- add to n lines that have t placements: a full board, then the line's own refusal, 2, 3 or 15, then too many placements with it
unfoldable pub add_refusal : Refusal → ℕ → ℕ → ℕ → ℕ → ℕ → Refusal
add_refusal earlier m n t s q =
    or_else earlier (or_else (when (eqb n most_lines) 24) (or_else (refuse (line_number m s q)) (when (ltb most_placements (t + q)) 30)))

abbrev pub is_negative : ℤ → Bool
is_negative (pos n) = false
is_negative (negsuc n) = true

-- keep: a margin below zero
unfoldable pub keep_refusal : Refusal → ℤ → Refusal
keep_refusal earlier margin = or_else earlier (when (is_negative margin) 26)

-- the mounted tip is outside a rack of m tips
abbrev pub is_outside : ℕ → Mounted → Bool
is_outside m bare = false
is_outside m (tip t) = leb m t

-- quick and best, before the rest: a mounted tip outside the rack; without a mounted tip nothing is asked
unfoldable pub mounted_refusal : Refusal → ℕ → Mounted → Refusal
mounted_refusal earlier m mounted = cond (is_outside m mounted) (or_else earlier (refuse 16)) earlier

-- a plan: a buffer of room bytes that is shorter than the n lines
unfoldable pub plan_refusal : Refusal → ℕ → ℕ → Refusal
plan_refusal earlier n room = or_else earlier (when (ltb room n) 4)

-- some line misses a named tip between its lowest and its highest: the place is the first such line
abbrev pub run_refusal : List ℕ → Refusal
run_refusal lines = scan (is_run_of (named lines)) (λ _. 25) lines

-- best: those of a plan, then a table shorter than m * m places, then a line that is no run
unfoldable pub best_refusal : Refusal → ℕ → List ℕ → ℕ → ℕ → Refusal
best_refusal earlier m lines room places = or_else (plan_refusal earlier (length lines) room)
    (or_else (when (ltb places (m * m)) 5) (run_refusal lines))

-- write: an output of room bytes that is shorter than the file of n lines in version v
unfoldable pub write_refusal : Refusal → ℕ → ℕ → ℕ → Refusal
write_refusal earlier v n room = or_else earlier (when (ltb room (file_length v n)) 11)
