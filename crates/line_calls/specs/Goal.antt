-- Strike tips that miss a pair goal: what is answered for lines after an earlier refusal, what is left of their sets, and what it means.
use Rattle.std.specs.Prelude.{ℕ, ◌<◌, ◌≡◌, ◌↔◌, List, length}
use Rattle.model.specs.Count.{All}
use Rattle.model.specs.Plan.{Valid, pairs}
use Rattle.model.specs.Interval.{Misses}
use Rattle.placements.specs.Repeated.{repeated}
use Rattle.refusal.specs.Told.{Refusal}
use Rattle.refusal.specs.Refusal.{or_else, lent_by}
use Rattle.call_refusals.specs.Calls.{run_refusal}
use Rattle.goal_rules.specs.Goal.{strike, Struck}
use Rattle.striking.specs.Striking.{goal_refusal}

-- what is refused before the goal is looked at: the earlier refusal, then 25 at the first line that is no run
unfoldable pub goal_asked : Refusal → List ℕ → Refusal
goal_asked earlier lines = or_else earlier (run_refusal lines)

-- then 34, where the best plan has fewer than K placement pairs
unfoldable pub goal_of : Refusal → ℕ → List ℕ → List ℕ → ℕ → Refusal
goal_of earlier m qs lines K = or_else (goal_asked earlier lines) (goal_refusal m qs lines K)

-- the sets after it: those of the lines struck, the others as they were
unfoldable pub struck_sets : Refusal → ℕ → List ℕ → List ℕ → ℕ → List ℕ → List ℕ
struck_sets earlier m qs lines K sets = lent_by (goal_of earlier m qs lines K) (length lines) (strike m qs lines K) sets

-- no valid plan has K placement pairs
abbrev pub NoneMeets : List ℕ → List ℕ → ℕ → Type 0
NoneMeets qs lines K = (plan : List ℕ) → Valid lines plan → pairs (repeated qs plan) < K

-- the goal rule, where asked is the number refused before the goal is looked at and struck are the sets left: on lines that are runs of the named
-- tips a tip stays on a line exactly when some valid plan with at least K placement pairs uses it there, and 34 exactly when no valid plan has K
pub record GoalRule (asked m : ℕ) (qs lines : List ℕ) (K : ℕ) (struck : List ℕ) (number : ℕ) : Type 0 where
  pub runs : number ≡ 0 → All (λ s. (c : ℕ) → Misses lines s c → ⊥) lines
  pub exact : number ≡ 0 → Struck m qs lines K struck
  pub refuses : asked ≡ 0 → (number ≡ 34) ↔ NoneMeets qs lines K
