-- The bits of a signed number, in 64 bits, are its two's complement.
use mathlib.Core.Path.{◌≡◌, refl}
use lib.IntN.{ℤ, pos, negsuc}
use mir.Syntax.{w64}
use mir.Val.{of_z}
use Rattle.file_calls.specs.Outcomes.{twos_complement}

pub bits_of : (x : ℤ) → of_z w64 x ≡ twos_complement x
unfolding twos_complement
bits_of (pos n) = refl
bits_of (negsuc n) = refl
