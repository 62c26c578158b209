-- The best order where a part that is ready is preferred: it obeys, and where no part is ever ready it is the least.
use Prim.Native.Nat.{ℕ, ◌<◌}
use native.Mathlib.Omega.{arith}
use mathlib.Core.Path.{◌≡◌, refl}
use lib.Dec.{T, ltb, ltb→lt}
use mathlib.Core.List.{List}
use mathlib.Core.Option.{none, some}
use lib.ListN.{take}
use Rattle.std.proofs.Common as R
use Rattle.std.proofs.Common.{IfSome, IfNone}
use Rattle.order_rules.specs.Order.{Task, Obeys}
use Rattle.order_rules.specs.Prefer.{Best}
use Rattle.order_rules.specs.Least.{choose_lowest, no_state, least_order}
use Rattle.order_rules.proofs.First.{on_alike, chooses_first}
use Rattle.order_rules.proofs.Best.{best-order, best_obeys}
use Rattle.order_rules.proofs.Agree.{best-alike}
use Rattle.flat_order.specs.declared.sets.PartSet.{PartSet}
use Rattle.flat_order.specs.Sets.{has_part, no_parts}
use Rattle.flat_order.specs.Flat.{by_ready, choose_ready, ready_order, Leaves}
use Rattle.flat_order.proofs.Lasts.{first-none}

-- the lower number alone decides
pub never_ready : (t : Task) → ready_order no_parts (λ _. no_parts) t ≡ least_order t
unfolding least_order
never_ready t =
    best-alike choose_ready choose_lowest (λ _. no_parts) no_state (λ on _. on ≡ no_parts) t
    (λ on _ e f. rw e (on_alike (has_part no_parts) f t.size (λ i _ _ _ u. absurd (nobody i u)))) (λ x _. refl) no_parts tt refl
  where
    nobody : (i : ℕ) → T (has_part no_parts i) → ⊥
    nobody i u = let v : T (ltb i 0) = rw (first-none i) at u in omega (arith, ltb→lt i 0 v)

-- what is found for whatever is ready after each part, where that is known
module _ (post : ℕ → PartSet → Type 0) (n : ℕ) (next : ℕ → PartSet) (r : Leaves post n next) (start : PartSet) (t : Task) where
  pub found_by : (o : R.Option (List ℕ)) → IfSome o (λ order. (m : ℕ → PartSet) → Leaves post n m → some (take n order) ≡ ready_order start m t)
      → IfSome o (λ order. some (take n order) ≡ ready_order start next t)
  found_by R.None h = tt
  found_by (R.Some order) h = h next r

  pub lost_by : (o : R.Option (List ℕ)) → IfNone o ((m : ℕ → PartSet) → Leaves post n m → none ≡ ready_order start m t)
      → IfNone o (none ≡ ready_order start next t)
  lost_by R.None h = h next r
  lost_by (R.Some order) h = tt

-- an order that is found obeys
pub ready_obeys : (start : PartSet) (next : ℕ → PartSet) (t : Task) → ((i : ℕ) → i < t.size → t.last i < t.size) → {order : List ℕ}
    → some order ≡ ready_order start next t → Obeys t order
ready_obeys start next t below {order} h =
    let best : Best by_ready next start t (some order) = rw h (best-order next (chooses_first has_part) start t below) in
    best_obeys best
