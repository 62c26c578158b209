-- What the answers mean for all valid plans by lines, counted in placements: the demands on common tip, keep, the plans handed out and the check.
use Rattle.std.specs.Prelude.{ℕ, ◌*◌, ◌≤◌, ◌<◌, ◌≡◌, ◌↔◌, List, T, length, take}
use Rattle.model.specs.Count.{All}
use Rattle.model.specs.Plan.{has, occ, Valid, pairs}
use Rattle.model.specs.Interval.{Misses}
use Rattle.placements.specs.Repeated.{repeated}
use Rattle.placements.specs.Keep.{WithinQ, LeastOffQ, ExactQ}
use Rattle.goal_rules.specs.Check.{Accepted}

-- an accepted common tip: off is the least over all valid plans, and the set has the tips in some line that as many placements allow as top
pub record CommonRule (m : ℕ) (qs lines : List ℕ) (number top off tips : ℕ) : Type 0 where
  pub off_least : number ≡ 0 → LeastOffQ m qs lines off
  pub tips_exact : number ≡ 0 → (t : ℕ) → T (has tips t) ↔ ((0 < occ (repeated qs lines) t) × (occ (repeated qs lines) t ≡ top))

-- no valid plan is within k placements
abbrev pub NoneWithin : ℕ → List ℕ → List ℕ → ℕ → Type 0
NoneWithin m qs lines k = (plan : List ℕ) → Valid lines plan → WithinQ m qs k plan → ⊥

-- the keep rule, where asked is the number refused before keep and kept are the sets left: a tip stays on a line exactly when some valid plan within
-- k placements uses it there, and 26 exactly when no valid plan is within k
pub record KeepRule (asked m : ℕ) (qs lines : List ℕ) (k : ℕ) (kept : List ℕ) (number : ℕ) : Type 0 where
  pub exact : number ≡ 0 → ExactQ m qs lines k kept
  pub refuses : asked ≡ 0 → (number ≡ 26) ↔ NoneWithin m qs lines k

-- a plan handed out, as its bytes stand in the buffer: each line is on a tip of its own set, and the placement pairs counted in it are those reported
pub record HandedOut (qs lines buffer : List ℕ) (shared : ℕ) : Type 0 where
  pub own : Valid lines (take (length lines) buffer)
  pub counted : pairs (repeated qs (take (length lines) buffer)) ≡ shared

-- the half rule: where quick sharing is accepted, its plan is handed out, and every other plan has at most twice its placement pairs
pub record HalfRule (qs lines buffer : List ℕ) (number shared : ℕ) : Type 0 where
  pub plan : number ≡ 0 → HandedOut qs lines buffer shared
  pub half : number ≡ 0 → (other : List ℕ) → Valid lines other → pairs (repeated qs other) ≤ 2 * shared

-- the best rule: where best sharing is accepted, no line misses a tip that some line names, and which is between its own lowest and highest;
-- its plan is handed out, and every other plan has at most its placement pairs
pub record BestRule (qs lines buffer : List ℕ) (number shared : ℕ) : Type 0 where
  pub runs : number ≡ 0 → All (λ s. (c : ℕ) → Misses lines s c → ⊥) lines
  pub plan : number ≡ 0 → HandedOut qs lines buffer shared
  pub best : number ≡ 0 → (other : List ℕ) → Valid lines other → pairs (repeated qs other) ≤ shared

-- the check, of the plan's first bytes, where asked is the number refused before it: 0 exactly where each line is on a tip of its own, the claim is
-- the plan's count and the table's entry for the rack, and each entry is at least each split at a named tip; then no plan has more than the claim
pub record CheckRule (asked m : ℕ) (qs lines plan : List ℕ) (claim : ℕ) (table : List ℕ) (number : ℕ) : Type 0 where
  pub accepted : number ≡ 0 → Accepted m qs lines (take (length lines) plan) claim table
  pub exact : asked ≡ 0 → Accepted m qs lines (take (length lines) plan) claim table → number ≡ 0
  pub best : number ≡ 0 → (other : List ℕ) → Valid lines other → pairs (repeated qs other) ≤ claim
