-- The placements of good lines are good, and good lines are good in the largest rack.
use Prim.Native.Nat.{ℕ}
use native.Mathlib.Omega.{arith}
use mathlib.Core.List.{List}
use Rattle.model.specs.Limits.{GoodPlacements}
use Rattle.placements.specs.Repeated.{repeated}
use Rattle.placements.specs.Good.{GoodLines}
use Rattle.placements.proofs.Repeated.{length-repeated, all-repeated}

pub good_placements : {m : ℕ} {qs sets : List ℕ} → GoodLines m qs sets → GoodPlacements m (repeated qs sets)
good_placements {m} {qs} {sets} g = record {
  some = g.some;
  most = g.most;
  few = omega (arith, length-repeated qs sets g.same, g.few);
  domains = all-repeated qs g.domains;
}
