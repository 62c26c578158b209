-- The windows narrowed to the bounds keep every order that obeys, and add none.
use Prim.Native.Nat.{ℕ, ◌<◌}
use native.Mathlib.Omega.{arith}
use mathlib.Core.Path.{refl}
use mathlib.Core.Logic.{◌↔◌}
use mathlib.Core.List.{List}
use lib.Dec.{T}
use lib.ListN.{get_or}
use Rattle.order_rules.specs.Order.{Task, Obeys}
use Rattle.windows.specs.Bounds.{solvable, bounded, CanStand}
use Rattle.windows.proofs.Bounds.{Below, soonest_le, latest_ge}
use Rattle.windows.proofs.Narrowing.{soonest_in, latest_in}

module _ (t : Task) (below : Below t) (y : T (solvable t)) where
  pub same_orders : (order : List ℕ) → Obeys t order ↔ Obeys (bounded t) order
  same_orders order = (narrow, widen)
    where
      stand : Obeys t order → (p : ℕ) → p < t.size → CanStand t (get_or order p 0) p
      stand o p l = record { order = order; obeys = o; below = l; at = refl }

      narrow : Obeys t order → Obeys (bounded t) order
      narrow o = record {
        count = o.count;
        parts = o.parts;
        different = o.different;
        opens = λ p l. soonest_le t below (get_or order p 0) (o.parts p l) p (stand o p l);
        closes = λ p l. latest_ge t below (get_or order p 0) (o.parts p l) p (stand o p l);
        ordered = o.ordered;
      }

      widen : Obeys (bounded t) order → Obeys t order
      widen o = record {
        count = o.count;
        parts = o.parts;
        different = o.different;
        opens = λ p l. omega (arith, o.opens p l, soonest_in t below (get_or order p 0) (o.parts p l) y);
        closes = λ p l. omega (arith, o.closes p l, latest_in t below (get_or order p 0) (o.parts p l) y);
        ordered = o.ordered;
      }
