-- The refusals of the base, where a board has sets alone: 21 tells every board that is not sound, and 25 every line that is no unbroken run. They are
-- written for themselves, so that a change of today's shows. For laws that say 'as before': no call's contract speaks of these.
use Rattle.std.specs.Prelude.{ℕ, ◌+◌, ◌*◌, ◌^◌, ◌≡◌, Bool, true, false, cond, ◌&&◌, ◌||◌, List, T, ltb, leb, eqb, ℤ, pos, negsuc}
use Rattle.std.specs.Prelude.{length, take, drop}
use Rattle.model.specs.Count.{All, each}
use Rattle.model.specs.Before.{is_run_before}
use Rattle.refusal.specs.Told.{Refusal}
use Rattle.refusal.specs.Refusal.{refuse, or_else, when, scan}
use Rattle.call_refusals.specs.declared.Stage.{Stage}
use Rattle.call_refusals.specs.declared.Stage.TheVariants.{Open, Closed}

-- rack m and count n are in range, each of the first n sets is not empty and has no tip outside the rack, and the sets after the n-th are empty
unfoldable pub sound_before : ℕ → ℕ → List ℕ → Bool
sound_before m n sets =
    (leb 1 m && leb m 64) && (leb n 512 && (each (λ s. ltb 0 s && ltb s (2 ^ m)) (take n sets) && each (λ s. eqb s 0) (drop n sets)))

-- the stage that the call asks for, and the stage of the board
unfoldable pub stage_before : Stage → Stage → ℕ
stage_before Open Open = 0
stage_before Open Closed = 22
stage_before Closed Open = 23
stage_before Closed Closed = 0

-- a board that is not sound, then its stage
unfoldable pub state_before : Stage → ℕ → Stage → ℕ → List ℕ → Refusal
state_before asked m stage n sets = refuse (cond (sound_before m n sets) (stage_before asked stage) 21)

unfoldable pub below_zero : ℤ → Bool
below_zero (pos n) = false
below_zero (negsuc n) = true

-- keep: a margin below zero
unfoldable pub keep_refusal_before : Refusal → ℤ → Refusal
keep_refusal_before earlier margin = or_else earlier (when (below_zero margin) 26)

-- a line's set: it is empty, or has a tip outside the rack; 0 for none
unfoldable pub set_before : ℕ → ℕ → ℕ
set_before m s = cond (eqb s 0) 2 (cond (ltb s (2 ^ m)) 0 3)

-- add to n lines: a full board, then the line's set
unfoldable pub add_refusal_before : Refusal → ℕ → ℕ → ℕ → Refusal
add_refusal_before earlier m n s = or_else earlier (or_else (when (eqb n 512) 24) (refuse (set_before m s)))

-- write of n lines: an output of room bytes that is shorter than the file
unfoldable pub write_refusal_before : Refusal → ℕ → ℕ → Refusal
write_refusal_before earlier n room = or_else earlier (when (ltb room (8 + 8 * n)) 11)

-- quick sharing of n lines: a plan buffer of room bytes that is shorter
unfoldable pub quick_refusal_before : Refusal → ℕ → ℕ → Refusal
quick_refusal_before earlier n room = or_else earlier (when (ltb room n) 4)

-- best sharing: the plan buffer, then a table shorter than m * m places, then the first line that is no unbroken run
unfoldable pub best_refusal_before : Refusal → ℕ → List ℕ → ℕ → ℕ → Refusal
best_refusal_before earlier m lines room places =
    or_else (quick_refusal_before earlier (length lines) room) (or_else (when (ltb places (m * m)) 5) (scan is_run_before (λ _. 25) lines))

-- a refusal of today as the base told it: 21 at place 0 stood for 27 and 28
unfoldable pub told_before : Refusal → Refusal
told_before r = cond (eqb r.number 27 || eqb r.number 28) (refuse 21) r

-- the quantities of a board of the base: 1 for each of its n lines, and 0 after them
pub record Plain (n : ℕ) (qs : List ℕ) : Type 0 where
  pub ones : All (λ q. q ≡ 1) (take n qs)
  pub rest : T (each (λ q. eqb q 0) (drop n qs))
