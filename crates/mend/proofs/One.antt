-- A test as a number, 1 where it passes.
use Prim.Native.Nat.{◌≤◌}
use native.Mathlib.Omega.{arith}
use mathlib.Core.Path.{◌≡◌, refl}
use mathlib.Core.Bool.{Bool, true, false, cond}
use mir.Val.{bool_byte}

-- it is at most 1
pub one_or_none : (b : Bool) → (bool_byte b ≡ cond b 1 0) × (bool_byte b ≤ 1)
one_or_none true = (refl, omega arith)
one_or_none false = (refl, omega arith)
