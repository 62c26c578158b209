-- Strike tips that miss a pair goal: a tip stays on a line exactly when some plan with at least K placement pairs uses it there.
use Rattle.std.specs.Prelude.{ℕ, suc, ◌^◌, ◌≤◌, ◌<◌, ◌≡◌, ◌↔◌, ◌&&◌, List, ◌++◌, T, leb, length, get_or, take, drop, replicate}
use Rattle.model.specs.Count.{All, list_of}
use Rattle.model.specs.Plan.{has, Domain, Valid, pairs}
use Rattle.model.specs.CommonTip.{set_of}
use Rattle.model.specs.Interval.{C}
use Rattle.placements.specs.Repeated.{repeated}

-- the set that has tip t alone
unfoldable pub only : ℕ → ℕ
only t = 2 ^ t

-- the list without its element at i
abbrev pub without : ℕ → List ℕ → List ℕ
without i xs = take i xs ++ drop (suc i) xs

-- the placements of the lines but for line i
abbrev pub others : List ℕ → List ℕ → ℕ → List ℕ
others qs sets i = repeated (without i qs) (without i sets)

-- the other placements, with q more that have tip t alone
abbrev pub joined : List ℕ → ℕ → ℕ → List ℕ
joined rest q t = replicate q (only t) ++ rest

-- the most pairs of a plan of these
abbrev pub reach : ℕ → List ℕ → ℕ → ℕ → ℕ
reach m rest q t = C (joined rest q t) 0 m

-- the tips of line i with which some plan has at least K pairs
unfoldable pub goal_tips : ℕ → List ℕ → List ℕ → ℕ → ℕ → ℕ
goal_tips m qs sets K i = set_of (λ t. has (get_or sets i 0) t && leb K (reach m (others qs sets i) (get_or qs i 0) t)) m

-- the sets of the lines, without the tips that miss the goal
unfoldable pub strike : ℕ → List ℕ → List ℕ → ℕ → List ℕ
strike m qs sets K = list_of (goal_tips m qs sets K) (length sets)

-- some valid plan with at least K placement pairs has line i on tip t
abbrev pub Meets : List ℕ → List ℕ → ℕ → ℕ → ℕ → Type 0
Meets qs sets K i t = (plan : List ℕ) × Valid sets plan × (K ≤ pairs (repeated qs plan)) × (get_or plan i 0 ≡ t)

-- the struck sets are subsets of the lines' sets, not empty, and hold the tips that meet the goal and no other
pub record Struck (m : ℕ) (qs sets : List ℕ) (K : ℕ) (struck : List ℕ) : Type 0 where
  pub same_length : length struck ≡ length sets
  pub domains : All (Domain m) struck
  pub own : (i t : ℕ) → i < length sets → T (has (get_or struck i 0) t) → T (has (get_or sets i 0) t)
  pub exact : (i t : ℕ) → i < length sets → T (has (get_or struck i 0) t) ↔ Meets qs sets K i t
