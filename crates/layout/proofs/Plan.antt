-- The plan that the owners give is the one that splits each interval at its pick.
use Prim.Native.Nat.{ℕ, ◌*◌, ◌≤◌, ◌<◌}
use mathlib.Core.Path.{◌≡◌, sym, ◌∙◌}
use mathlib.Core.Bool.{true}
use mathlib.Core.List.{List, map}
use native.Mathlib.Omega.{arith}
use lib.Arith.{digits_lt}
use lib.Dec.{T}
use lib.ListN.{length}
use Rattle.model.specs.Count.{All}
use Rattle.model.specs.Plan.{Domain}
use Rattle.model.specs.Choice.{Mounted, from}
use Rattle.model.specs.Interval.{any, low, high, is_run, Line, tip_by, pick_of, table, plan_for}
use Rattle.model.proofs.Tests.{true_T}
use Rattle.model.proofs.Lists.{all_map, map_cong}
use Rattle.model.proofs.Choice.{choice_lt}
use Rattle.model.proofs.Best.{pick-any}
use Rattle.model.proofs.Run.{low-high, high-below, run-lines}
use Rattle.spans.specs.Spans.{RunSums}
use Rattle.layout.specs.Owners.{within, owner_of, owner_by, laid}
use Rattle.layout.specs.Picks.{pick_by}
use Rattle.layout.proofs.Places.{written_at}
use Rattle.layout.proofs.Owners.{within_in, owner_tip, owner_same}
use Rattle.layout.proofs.Picks.{pick_is}

any-pick_lt : (mounted : Mounted) (lines : List ℕ) (a w : ℕ) → 0 < w → pick_of mounted any lines a w < w
any-pick_lt mounted lines a w p = rw (pick-any lines mounted a w) (choice_lt _ (from a mounted) w p)

module _ (mounted : Mounted) {m : ℕ} {lines xs cs : List ℕ} (k : RunSums m 0 lines xs) (filled : cs ≡ table m lines) (owner : List ℕ)
    (size : m * m ≤ length owner) where
  own_tip : (s : ℕ) → Line (λ c. true) m s → owner_of m (laid m (pick_by mounted m xs cs) 0 m owner) s ≡ tip_by (pick_of mounted any lines) m 0 m s
  unfolding owner_of
  own_tip s l =
      let narrow = k.good.most in
      let h : high s < m = high-below narrow l.domain in
      let g = low-high narrow l.domain in
      let by = owner_by (pick_by mounted m xs cs) m 0 m in
      let place = digits_lt {q = low s} {m = m} {r = high s} {c = m} (omega arith) h in
      written_at m (within 0 m) by owner (low s) (high s) h (omega (arith, place, size))
      ∙ rw (true_T (within 0 m (low s) (high s)) (within_in 0 m (low s) (high s) (omega arith) g (omega arith)))
      (owner_same (pick_by mounted m xs cs) (pick_of mounted any lines) (pick_is k filled mounted) (any-pick_lt mounted lines) m m 0 m
      (low s) (high s)
      (omega arith) (omega arith) (omega arith) (omega arith) g (omega arith)
      ∙ sym (owner_tip narrow l (pick_of mounted any lines) m 0 m))

  -- of all sets that are unbroken runs, those of the lines counted or others
  pub plan_laid : {sets : List ℕ} → All (Domain m) sets → All (λ s. T (is_run s)) sets
      → map (owner_of m (laid m (pick_by mounted m xs cs) 0 m owner)) sets ≡ plan_for mounted any m lines sets
  plan_laid ds rs = map_cong (all_map own_tip (run-lines k.good.most ds rs))
