-- The first tip of a list that a line allows, one tip more at a time.
use Prim.Native.Nat.{ℕ, ◌+◌, ◌≤◌, ◌<◌}
use native.Mathlib.Numerals.{add-one}
use mathlib.Core.Path.{◌≡◌, ◌∙◌}
use mathlib.Core.Bool.{true, false, cond}
use mathlib.Core.List.{List}
use lib.ListN.{length, drop, get_or, drop_of_length-le}
use lib.Seq.{drop-cons}
use Rattle.model.specs.Plan.{has}
use Rattle.model.specs.Greedy.{first}

module _ (tips : List ℕ) (s i : ℕ) where
  first_rest : i < length tips → first (drop i tips) s ≡ cond (has s (get_or tips i 0)) (get_or tips i 0) (first (drop (i + 1) tips) s)
  unfolding first
  first_rest l = rw (add-one, drop-cons tips i 0 l)

  -- the tip at i is allowed, or it is passed over
  pub first_found : i < length tips → has s (get_or tips i 0) ≡ true → first (drop i tips) s ≡ get_or tips i 0
  first_found l e = first_rest l ∙ rw e

  pub first_passed : i < length tips → has s (get_or tips i 0) ≡ false → first (drop i tips) s ≡ first (drop (i + 1) tips) s
  first_passed l e = first_rest l ∙ rw e

  pub first-end : length tips ≤ i → first (drop i tips) s ≡ 0
  unfolding first
  first-end l = rw (drop_of_length-le tips l)
