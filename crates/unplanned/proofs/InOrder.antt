-- A list of all lines, each at its own place.
use Prim.Native.Nat.{ℕ, ◌+◌, ◌≤◌, ◌<◌}
use native.Mathlib.Omega.{arith}
use mathlib.Core.Path.{◌≡◌, ◌∙◌}
use mathlib.Core.Logic.{⊎_elim}
use mathlib.Core.List.{List, ◌++◌}
use lib.ListN.{length, get_or, take, drop, set, get_or-append}
use lib.Seq.{length-take-le, get_or-set_same, get_or-set_other}
use Rattle.model.proofs.Tests.{le_or_lt}
use Rattle.unplanned.specs.Listed.{InOrder, Unplanned}

pub in_order_more : (list : List ℕ) (i : ℕ) → i < length list → InOrder i list → InOrder (i + 1) (set list i i)
in_order_more list i l f k h =
    ⊎_elim
    (λ (x : i ≤ k). let e : k ≡ i = omega arith in rw e (get_or-set_same list i i 0 l))
    (λ x. get_or-set_other list i k i 0 (λ e. omega arith) ∙ f k x)
    (le_or_lt i k)

-- no line has a tip yet: all of them are listed in the first part of the list
pub all-unplanned : (sets list new : List ℕ) → length sets ≤ length list → length new ≡ length (take (length sets) list)
    → InOrder (length (take (length sets) list)) new → Unplanned (length sets) (new ++ drop (length sets) list) sets
all-unplanned sets list new room size f =
    let n = length-take-le (length sets) list room in
    let at : (k : ℕ) → k < length sets → get_or (new ++ drop (length sets) list) k 0 ≡ k
    = λ k h. get_or-append new (drop (length sets) list) 0 k (omega arith) ∙ f k (omega arith) in
    record {
      inside = λ k h. omega (arith, at k h);
      once = λ j k a b s. omega (arith, at j (omega arith), at k b);
      each = λ i l s. record { place = i; early = l; held = at i l };
    }
