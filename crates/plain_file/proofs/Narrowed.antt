-- Sets narrowed with their bytes the other way round, and the lines that keep within k leaves of a file without quantities.
use Prim.Native.Nat.{ℕ, ◌^◌, ◌≤◌, ◌<◌}
use native.Mathlib.Omega.{arith}
use mathlib.Core.Path.{◌≡◌, sym, ap, ◌∙◌}
use mathlib.Core.Bool.{Bool, true, false, cond}
use mathlib.Core.List.{List}
use lib.Bits.{bit_and, and_le_l}
use lib.Dec.{eqb, eqb→eq}
use native.Mathlib.Nat.{lt_of_le_of_lt}
use Rattle.std.specs.Int.{w64, swap_bytes}
use Rattle.model.specs.Count.{All}
use Rattle.model.proofs.Tests.{same_test, eqb_T}
use Rattle.model.proofs.Lists.{all_map}
use Rattle.counts.proofs.Swapped.{swapped_back, swapped_and}
use Rattle.common_tip.specs.Common.{narrow_by}
use Rattle.job.specs.Job.{counted, version_in, quantities_in}
use Rattle.job.proofs.Reading.{plain_quantities}

same_swapped : (a b : ℕ) → a < 2 ^ 64 → b < 2 ^ 64 → eqb (swap_bytes w64 a) (swap_bytes w64 b) ≡ eqb a b
same_swapped a b h g =
    same_test (eqb (swap_bytes w64 a) (swap_bytes w64 b)) (eqb a b)
    (λ t. eqb_T a b (sym (swapped_back a h) ∙ ap (swap_bytes w64) (eqb→eq _ _ t) ∙ swapped_back b g))
    (λ t. eqb_T _ _ (ap (swap_bytes w64) (eqb→eq a b t)))

-- a set narrowed so, and put back
pub narrow-swapped : (v s : ℕ) → v < 2 ^ 64 → s < 2 ^ 64 → swap_bytes w64 (narrow_by (swap_bytes w64 v) (swap_bytes w64 s)) ≡ narrow_by v s
unfolding narrow_by
narrow-swapped v s h g =
    let test = ap (λ x. eqb x (swap_bytes w64 v)) (swapped_and s v g h) ∙ same_swapped (bit_and s v) v (lt_of_le_of_lt (and_le_l s v) g) h in
    rw test (by (eqb (bit_and s v) v))
  where
    by : (b : Bool) → swap_bytes w64 (cond b (swap_bytes w64 v) (swap_bytes w64 s)) ≡ cond b v s
    by true = swapped_back v h
    by false = swapped_back s g

module _ (file : List ℕ) (plain : version_in file ≡ 1) where
  -- each quantity is 1, and none is 0
  pub ones : All (λ q. q ≡ 1) (quantities_in file)
  ones = plain_quantities file (ap counted plain)

  pub placed : All (λ q. 1 ≤ q) (quantities_in file)
  placed = all_map (λ q e. omega (arith, e)) ones
