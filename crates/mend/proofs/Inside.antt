-- A set is in the rack exactly where it is the same without the tips outside.
use Prim.Native.Nat.{ℕ, ◌%◌, ◌^◌, ◌<◌}
use native.Mathlib.Nat.{mod-lt, mod-eq_of_lt}
use mathlib.Core.Path.{◌≡◌, subst}
use lib.Dec.{eqb, eqb→eq, ltb→lt, lt→ltb}
use lib.Pow.{pow_pos}
use Rattle.model.specs.Plan.{in_rack}
use Rattle.model.proofs.Tests.{same_test, eqb_T}

pub inside : (m s : ℕ) → eqb (s % 2 ^ m) s ≡ in_rack m s
unfolding in_rack
inside m s =
    same_test _ _
    (λ t. lt→ltb s (2 ^ m) (subst (λ x. x < 2 ^ m) (eqb→eq (s % 2 ^ m) s t) (mod-lt s (pow_pos m))))
    (λ t. eqb_T (s % 2 ^ m) s (mod-eq_of_lt (ltb→lt s (2 ^ m) t)))
