-- How many lines allow a tip: the most that allow one, and the busiest tip.
use Prim.Native.Nat.{ℕ, ◌≤◌, ◌<◌}
use native.Mathlib.Omega.{arith}
use native.Mathlib.Nat.{le_trans}
use mathlib.Core.Logic.{⊎_elim}
use mathlib.Core.List.{List}
use lib.ListN.{length}
use Rattle.model.specs.Count.{All}
use Rattle.model.specs.Plan.{has, occ, Domain}
use Rattle.model.specs.Choice.{Mounted, bare}
use Rattle.model.specs.Greedy.{busiest}
use Rattle.model.specs.CommonTip.{top}
use Rattle.model.proofs.Tests.{le_or_lt}
use Rattle.model.proofs.Lists.{all_map, count_none, count_le}
use Rattle.model.proofs.Largest.{largest_ge}
use Rattle.model.proofs.Choice.{choice_lt, choice_attains}
use Rattle.model.proofs.Sets.{has-below}

-- a tip that some line allows is in the rack
pub occ-below : {m : ℕ} {lines : List ℕ} → All (Domain m) lines → (t : ℕ) → 0 < occ lines t → t < m
unfolding occ
occ-below {m} {lines} ds t h = ⊎_elim above (λ p. p) (le_or_lt m t)
  where
    above : m ≤ t → t < m
    above l = absurd (omega (arith, count_none (λ s. has s t) (all_map (λ s d h. omega (arith, has-below m s t d.below h)) ds)))

-- no more lines allow a tip than there are
pub occ-length : (lines : List ℕ) (t : ℕ) → occ lines t ≤ length lines
unfolding occ
occ-length lines t = count_le (λ s. has s t) lines

-- no tip, from m on either, is allowed by more lines than top
pub occ_le : {m : ℕ} {lines : List ℕ} → All (Domain m) lines → (t : ℕ) → occ lines t ≤ top m lines
unfolding occ top
occ_le {m} {lines} ds t = ⊎_elim (λ z. omega arith) (λ p. largest_ge (occ lines) m t (occ-below ds t p)) (le_or_lt (occ lines t) 0)

-- the busiest tip attains it, whatever is mounted
pub top_le : (mounted : Mounted) (m : ℕ) (lines : List ℕ) → top m lines ≤ occ lines (busiest mounted lines m)
unfolding top busiest
top_le mounted m lines = choice_attains (occ lines) mounted m

pub top-length : (m : ℕ) (lines : List ℕ) → top m lines ≤ length lines
top-length m lines = le_trans (top_le bare m lines) (occ-length lines (busiest bare lines m))

pub busiest_lt : (mounted : Mounted) (m : ℕ) (lines : List ℕ) → 0 < m → busiest mounted lines m < m
unfolding busiest
busiest_lt mounted m lines = choice_lt (occ lines) mounted m
