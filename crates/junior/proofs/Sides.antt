-- The score by counts: 0 where one of two different tips would get no line, else one more than the larger side.
use Prim.Native.Nat.{ℕ, ◌+◌, ◌-◌, ◌≤◌, max}
use native.Mathlib.Omega.{arith}
use mathlib.Core.Path.{◌≡◌}
use mathlib.Core.Bool.{Bool, true, false, ◌&&◌, ◌||◌}
use lib.Dec.{ltb}
use Rattle.model.specs.Limits.{most_placements, most_pairs}
use Rattle.model.proofs.Limits.{choose2_few}
use Rattle.holder_rules.specs.Holders.{side_pairs, score_by}

pub side_few : (n x : ℕ) → x ≤ n → n ≤ most_placements → side_pairs n x ≤ most_pairs + most_pairs
unfolding side_pairs
side_few n x l h = omega (arith, choose2_few x (omega arith), choose2_few (n - x) (omega arith))

module _ (n x y : ℕ) (same : Bool) where
  -- one of two different tips gets no line
  pub score_none : (same || (ltb x n && ltb y n)) ≡ false → score_by same n x y ≡ 0
  unfolding score_by
  score_none e = rw e

  -- one tip, or two that each get a line
  pub score_some : (same || (ltb x n && ltb y n)) ≡ true → score_by same n x y ≡ 1 + max (side_pairs n x) (side_pairs n y)
  unfolding score_by
  score_some e = rw e
