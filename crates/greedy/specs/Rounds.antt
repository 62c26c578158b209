-- Quick sharing over a working copy of the lines, in which a planned line is the empty set.
use Rattle.std.specs.Prelude.{ℕ, ◌+◌, ◌≤◌, ◌<◌, ◌≡◌, ◌⊎◌, cond, List, [], ◌∷◌, map, T, length, get_or, take, replicate}
use Rattle.model.specs.Limits.{most_tips, most_lines, most_placements}
use Rattle.model.specs.Plan.{has, pairs}
use Rattle.model.specs.Choice.{Mounted}
use Rattle.placements.specs.Repeated.{total, repeated, weighted}
use Rattle.placements.specs.Good.{GoodLines}
use Rattle.placements.specs.Plans.{quick_plan_q}
use Rattle.counts.specs.Counts.{Counts}
use Rattle.unplanned.specs.Listed.{Below, Unplanned, line_at}

-- f of each line's set and its tip in the plan; a tip without a line stays
unfoldable pub plan_by : (ℕ → ℕ → ℕ) → List ℕ → List ℕ → List ℕ
plan_by f [] plan = plan
plan_by f (s ∷ left) [] = []
plan_by f (s ∷ left) (p ∷ plan) = f s p ∷ plan_by f left plan

-- once tip t is taken, a line that has it is empty
abbrev pub cleared : ℕ → ℕ → ℕ
cleared t s = cond (has s t) 0 s

-- and is on it; any other line is where it was
abbrev pub placed : ℕ → ℕ → ℕ → ℕ
placed t s p = cond (has s t) t p

-- what quick sharing needs of its lines and of the plan that it is lent
pub record Shareable (rack : ℕ) (qs lines plan : List ℕ) : Type 0 where
  pub good : GoodLines rack qs lines
  pub size : length plan ≡ length lines

-- what quick sharing answers and leaves: the placement pairs, the plan, and a working copy of which each line is planned
pub record QuickShared (mounted : Mounted) (rack : ℕ) (qs lines : List ℕ) (r : ℕ) (plan left : List ℕ) : Type 0 where
  pub pairs_are : r ≡ pairs (repeated qs (quick_plan_q mounted rack qs lines))
  pub plan_is : plan ≡ quick_plan_q mounted rack qs lines
  pub left_is : left ≡ replicate (length lines) 0

-- the same of the plan alone
pub record Shared (mounted : Mounted) (rack : ℕ) (qs lines : List ℕ) (r : ℕ) (plan : List ℕ) : Type 0 where
  pub pairs_are : r ≡ pairs (repeated qs (quick_plan_q mounted rack qs lines))
  pub plan_is : plan ≡ quick_plan_q mounted rack qs lines

-- room for n lines: in the list of those without a tip, for the places of those with a tip, and for their sets and quantities
pub record ListsFit (n : ℕ) (list places sets taken : List ℕ) : Type 0 where
  pub for_lines : n ≤ length list
  pub for_places : n ≤ length places
  pub for_sets : n ≤ length sets
  pub paired : length taken ≡ length sets
  pub narrow : n ≤ most_lines

-- r listed lines to take the tip for: each has it, and none is listed twice
pub record TakeReady (tip r : ℕ) (places list qs left plan sets taken : List ℕ) : Type 0 where
  pub tip_inside : tip < most_tips
  pub same : length qs ≡ length left
  pub size : length plan ≡ length left
  pub fit : ListsFit r list places sets taken
  pub places_inside : Below (length list) r places
  pub inside : (p : ℕ) → p < r → line_at list places p < length left
  pub once : (p q : ℕ) → p < q → q < r → line_at list places p ≡ line_at list places q → ⊥
  pub tipped : (p : ℕ) → p < r → T (has (get_or left (line_at list places p) 0) tip)

-- line i is as after the tip is taken
pub record LineDone (tip i : ℕ) (left plan left' plan' : List ℕ) : Type 0 where
  pub left_is : get_or left' i 0 ≡ cleared tip (get_or left i 0)
  pub plan_is : get_or plan' i 0 ≡ placed tip (get_or left i 0) (get_or plan i 0)

-- line i is as it was
pub record LineKept (i : ℕ) (left plan left' plan' : List ℕ) : Type 0 where
  pub left_is : get_or left' i 0 ≡ get_or left i 0
  pub plan_is : get_or plan' i 0 ≡ get_or plan i 0

-- the tip is taken for the lines at the first r places, and their sets and quantities are gathered
pub record ListTaken (tip r : ℕ) (places list qs left plan left' plan' sets taken : List ℕ) : Type 0 where
  pub left_size : length left' ≡ length left
  pub plan_size : length plan' ≡ length plan
  pub listed : (p : ℕ) → p < r → LineDone tip (line_at list places p) left plan left' plan'
  pub others : (i : ℕ) → LineDone tip i left plan left' plan' ⊎ LineKept i left plan left' plan'
  pub sum : (t : ℕ) → weighted (λ s. has s t) qs left' + weighted (λ s. has s t) (take r taken) (take r sets) ≡ weighted (λ s. has s t) qs left
  pub sum_tip : weighted (λ s. has s tip) qs left' + total (take r taken) ≡ weighted (λ s. has s tip) qs left

-- the tip is taken for all lines
pub record Taken (tip : ℕ) (left plan left' plan' : List ℕ) : Type 0 where
  pub left_is : left' ≡ map (cleared tip) left
  pub plan_is : plan' ≡ plan_by (placed tip) left plan

-- what a round needs: a tip to take for lines whose occurrences are counted in placements, m lines without a tip, and lists with room for all
pub record RoundReady (tip m : ℕ) (qs left plan counts list places sets taken : List ℕ) : Type 0 where
  pub tip_inside : tip < most_tips
  pub same : length qs ≡ length left
  pub few : total qs ≤ most_placements
  pub size : length plan ≡ length left
  pub counts_are : Counts (repeated qs left) counts
  pub most : m ≤ length left
  pub unplanned : Unplanned m list left
  pub fit : ListsFit (length left) list places sets taken

-- what a round leaves: m' lines without a tip, counted if there are any
pub record RoundDone (tip : ℕ) (qs left plan left' plan' counts' : List ℕ) (m' : ℕ) (list' : List ℕ) : Type 0 where
  pub done : Taken tip left plan left' plan'
  pub most : m' ≤ length left'
  pub unplanned : Unplanned m' list' left'
  pub counts_are : (m' ≡ 0 → ⊥) → Counts (repeated qs left') counts'

-- what the rounds need: lines whose occurrences are counted, and lists with room for all
pub record RoundsReady (rack : ℕ) (qs left plan counts list places sets taken : List ℕ) : Type 0 where
  pub shareable : Shareable rack qs left plan
  pub counts_are : Counts (repeated qs left) counts
  pub fit : ListsFit (length left) list places sets taken

-- the lists are as long as they were
pub record Sizes (list₀ places₀ sets₀ taken₀ list places sets taken : List ℕ) : Type 0 where
  pub list_size : length list ≡ length list₀
  pub places_size : length places ≡ length places₀
  pub sets_size : length sets ≡ length sets₀
  pub taken_size : length taken ≡ length taken₀
