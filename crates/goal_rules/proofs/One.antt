-- A line with one tip keeps it where the best plan meets the goal.
use Prim.Native.Nat.{ℕ, ◌≤◌, ◌<◌}
use native.Mathlib.Omega.{arith}
use mathlib.Core.Path.{◌≡◌}
use mathlib.Core.List.{List}
use lib.Dec.{T}
use lib.ListN.{length, get_or}
use Rattle.model.specs.Count.{All}
use Rattle.model.specs.Plan.{has, Domain}
use Rattle.model.specs.Interval.{low, high, named, is_run_of, C}
use Rattle.model.proofs.Tests.{same_test}
use Rattle.model.proofs.Lists.{all-at}
use Rattle.model.proofs.ListOf.{list_of-at}
use Rattle.model.proofs.Sets.{set_same}
use Rattle.model.proofs.Run.{low_le, low-tip, le_high}
use Rattle.placements.specs.Repeated.{repeated}
use Rattle.placements.specs.Good.{GoodLines}
use Rattle.goal_rules.specs.Goal.{goal_tips, strike, Struck}
use Rattle.goal_rules.proofs.Strike.{strike_runs}

module _ {m : ℕ} {qs sets : List ℕ} (good : GoodLines m qs sets) (runs : All (λ s. T (is_run_of (named sets) s)) sets) (i : ℕ) (l : i < length sets)
    (K : ℕ) (k : K ≤ C (repeated qs sets) 0 m) (one : low (get_or sets i 0) ≡ high (get_or sets i 0)) where
  abbrev s : ℕ
  s = get_or sets i 0

  abbrev g : ℕ
  g = goal_tips m qs sets K i

  exact : Struck m qs sets K (strike m qs sets K)
  exact = strike_runs good runs K k

  at : get_or (strike m qs sets K) i 0 ≡ g
  unfolding strike
  at = list_of-at (goal_tips m qs sets K) (length sets) i l

  own : (t : ℕ) → T (has g t) → T (has s t)
  own t h = exact.own i t l (rw at h)

  domain : Domain m g
  domain = rw at at (all-at 0 exact.domains i (omega (arith, exact.same_length)))

  single : (t : ℕ) → T (has s t) → t ≡ low s
  single t h = omega (arith, one, low_le s t h, le_high good.most (all-at 0 good.domains i l) t h)

  pub one-tip : s ≡ g
  one-tip =
      let tip = low-tip good.most domain in
      set_same s g (λ t. same_test (has s t) (has g t)
      (λ h. let e : low g ≡ t = omega (arith, single t h, single (low g) (own (low g) tip)) in rw e at tip)
      (own t))
