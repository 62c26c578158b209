-- The placing order is the least that obeys; and which part precedes which by their flags.
use Prim.Native.Nat.{ℕ, ◌≤◌, ◌<◌}
use mathlib.Core.Bool.{Bool, true, false, not, ◌&&◌, ◌||◌}
use mathlib.Core.List.{List}
use lib.Dec.{T, ltb, leb, ltb→lt}
use lib.ListN.{length}
use Rattle.model.specs.Count.{each}
use Rattle.model.proofs.Tests.{and_right, and_in}
use Rattle.model.proofs.Lists.{all-at, each_iff}
use Rattle.model.proofs.Fails.{none_fails}
use Rattle.order_rules.specs.declared.Part.{Part}
use Rattle.order_rules.specs.declared.Rule.{Rule}
use Rattle.order_rules.specs.Order.{Least}
use Rattle.order_rules.specs.Parts.{part_at, fine_pitch, by_flags, window_ok, task_of, placing_order}
use Rattle.order_rules.specs.Call.{first_bad}
use Rattle.order_rules.proofs.Least.{least-order}

or_left : (a b : Bool) → T a → T (a || b)
or_left true b u = tt
or_left false b u = absurd u

pub or_right : (a b : Bool) → T b → T (a || b)
or_right true b u = tt
or_right false b u = u

pub last-below : (parts : List Part) → T (each (window_ok (length parts)) parts) → (i : ℕ) → i < length parts → (part_at parts i).last < length parts
unfolding window_ok
last-below parts w i l =
    let x = part_at parts i in
    let n = length parts in
    ltb→lt x.last n (and_right (leb x.first x.last) (ltb x.last n) (all-at _ ((each_iff (window_ok n) parts).0 w) i l))

-- where each window is good, the placing order is the least order that obeys, and none exactly when none obeys
pub placing-order : (parts : List Part) (rules : List Rule) → T (each (window_ok (length parts)) parts)
    → Least (task_of parts rules) (placing_order parts rules)
unfolding placing_order
placing-order parts rules w = least-order (task_of parts rules) (last-below parts w)

-- each window is good where the first bad one is past the parts
pub windows_good : (parts : List Part) → length parts ≤ first_bad parts → T (each (window_ok (length parts)) parts)
windows_good parts l = (each_iff (window_ok (length parts)) parts).1 (none_fails (window_ok (length parts)) parts l)

-- a fine part precedes each part that is not fine
pub fine-first : (x y : Part) → T (fine_pitch x) → T (not (fine_pitch y)) → T (by_flags x y)
unfolding by_flags
fine-first x y f n = or_left (fine_pitch x && not (fine_pitch y)) (not x.tall && y.tall) (and_in (fine_pitch x) (not (fine_pitch y)) f n)

-- a part that is not tall precedes each tall one
pub tall-last : (x y : Part) → T (not x.tall) → T y.tall → T (by_flags x y)
unfolding by_flags
tall-last x y n t = or_right (fine_pitch x && not (fine_pitch y)) (not x.tall && y.tall) (and_in (not x.tall) y.tall n t)
