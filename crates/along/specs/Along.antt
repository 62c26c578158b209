-- Plans with the fewest tip changes, where the lines are placed in the order of the list.
use Rattle.std.specs.Prelude.{ℕ, suc, ◌+◌, ◌≤◌, ◌≡◌, Bool, true, cond, List, [], ◌∷◌, eqb}
use Rattle.std.specs.Int.Bits.{bit_and}
use Rattle.model.specs.Limits.{most_tips}
use Rattle.model.specs.Plan.{is_empty, Valid}
use Rattle.model.specs.Choice.{Mounted, bare, tip}
use Rattle.model.specs.CommonTip.{set_of}
use Rattle.model.specs.Interval.{low}

-- how often the head changes its tip along the plan, with tip t on it before
unfoldable pub changes_after : ℕ → List ℕ → ℕ
changes_after t [] = 0
changes_after t (u ∷ plan) = cond (eqb t u) 0 1 + changes_after u plan

-- and with what is mounted at the start: to mount the first tip on a bare head is no change
unfoldable pub changes : Mounted → List ℕ → ℕ
changes (tip t) plan = changes_after t plan
changes bare [] = 0
changes bare (u ∷ plan) = changes_after u plan

-- no tip is in both sets
unfoldable pub parted : ℕ → ℕ → Bool
parted k s = is_empty (bit_and k s)

-- the common tips of a segment after a line of set s: those in both, or where there is none a new segment's, all of s
unfoldable pub common : ℕ → ℕ → ℕ
common k s = cond (parted k s) s (bit_and k s)

-- the changes from a line on, where the segment so far has the common tips k
unfoldable pub fewest_from : ℕ → List ℕ → ℕ
fewest_from k [] = 0
fewest_from k (s ∷ lines) = cond (parted k s) 1 0 + fewest_from (common k s) lines

-- the common tips of the segment at its end
unfoldable pub final : ℕ → List ℕ → ℕ
final k [] = k
final k (s ∷ lines) = cond (parted k s) k (final (bit_and k s) lines)

-- how many of the lines belong to the segment
unfoldable pub reach : ℕ → List ℕ → ℕ
reach k [] = 0
reach k (s ∷ lines) = cond (parted k s) 0 (suc (reach (bit_and k s) lines))

-- each line on the lowest tip that is common to its segment
unfoldable pub plan_from : ℕ → List ℕ → List ℕ
plan_from k [] = []
plan_from k (s ∷ lines) = low (final (common k s) lines) ∷ plan_from (common k s) lines

-- tip t can be on the head before the first line
abbrev pub can_start : Mounted → ℕ → Bool
can_start bare t = true
can_start (tip u) t = eqb u t

-- the set of those tips
unfoldable pub start_set : Mounted → ℕ
start_set on = set_of (can_start on) most_tips

-- the fewest changes along the list
unfoldable pub fewest : Mounted → List ℕ → ℕ
fewest on lines = fewest_from (start_set on) lines

-- the plan that has them
unfoldable pub plan_along : Mounted → List ℕ → List ℕ
plan_along on lines = plan_from (start_set on) lines

-- the plan is valid, has r changes along the list, and no valid plan has fewer
pub record FewestChanges (on : Mounted) (lines plan : List ℕ) (r : ℕ) : Type 0 where
  pub valid : Valid lines plan
  pub counted : changes on plan ≡ r
  pub least : (other : List ℕ) → Valid lines other → r ≤ changes on other
