-- The sets of a rack of at most eight tips fit in a byte.
use Prim.Native.Nat.{ℕ, ◌^◌, ◌≤◌, ◌<◌}
use native.Mathlib.Nat.{lt_of_lt_of_le}
use mathlib.Core.List.{List}
use lib.Pow.{pow_mono}
use Rattle.model.specs.Count.{All}
use Rattle.model.specs.Plan.{Domain}
use Rattle.model.proofs.Lists.{all_map}

pub few_narrow : {m : ℕ} {sets : List ℕ} → All (Domain m) sets → m ≤ 8 → All (λ s. s < 2 ^ 8) sets
few_narrow ds l = all_map (λ s d. lt_of_lt_of_le d.below (pow_mono l)) ds
