-- One set and its quantity more among those gathered.
use Prim.Native.Nat.{ℕ, ◌+◌, ◌<◌}
use native.Mathlib.Omega.{arith}
use mathlib.Core.Path.{◌≡◌}
use mathlib.Core.Bool.{Bool, cond}
use mathlib.Core.List.{List}
use lib.ListN.{length, take, set, length-set}
use lib.Seq.{get_or-set_same, take-set-le}
use Rattle.placements.specs.Repeated.{total, weighted}
use Rattle.placements.proofs.Loops.{total-more, weighted-more}

module _ (sets taken : List ℕ) (paired : length taken ≡ length sets) (r s q : ℕ) (l : r < length sets) where
  pub gathered-more : (f : ℕ → Bool) → weighted f (take (r + 1) (set taken r q)) (take (r + 1) (set sets r s))
      ≡ weighted f (take r taken) (take r sets) + cond (f s) q 0
  gathered-more f =
      let size : length (set taken r q) ≡ length (set sets r s) = simp length-set paired in
      rw (
        weighted-more f (set taken r q) (set sets r s) size r (simp length-set l),
        take-set-le r taken r q (omega arith),
        take-set-le r sets r s (omega arith),
        get_or-set_same taken r q 0 (omega arith),
        get_or-set_same sets r s 0 l,
      )

  pub gathered-total : total (take (r + 1) (set taken r q)) ≡ total (take r taken) + q
  gathered-total =
      let more = total-more (set taken r q) r (simp length-set (omega arith)) in
      rw (more, take-set-le r taken r q (omega arith), get_or-set_same taken r q 0 (omega arith))
