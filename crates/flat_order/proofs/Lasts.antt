-- The sets of the first parts.
use Prim.Native.Nat.{ℕ, ◌+◌, ◌-◌}
use native.Mathlib.Omega.{arith}
use mathlib.Core.Path.{◌≡◌, sym, ◌∙◌}
use mathlib.Core.Logic.{⊎_elim}
use mathlib.Core.Bool.{Bool, true, false, ◌||◌}
use lib.Dec.{T, ltb, eqb, ltb→lt, lt→ltb, eqb→eq, eqb_refl, not_T}
use Rattle.model.proofs.Tests.{same_test, false_T, le_or_lt, cond_case}
use Rattle.flat_order.specs.declared.sets.PartSet.{PartSet}
use Rattle.flat_order.specs.Sets.{has_part, single, joined}
use Rattle.flat_order.proofs.Members.{has-none, has-single, has-joined}

-- the first i + 1 parts: the first i, and part i
pub first_more : (all : PartSet) (i : ℕ) → ((x : ℕ) → has_part all x ≡ ltb x i) → (x : ℕ) → has_part (joined all (single i)) x ≡ ltb x (i + 1)
first_more all i h x = has-joined all (single i) x ∙ rw (h x, has-single i x) (step x)
  where
    step : (y : ℕ) → (ltb y i || eqb i y) ≡ ltb y (i + 1)
    step y = same_test (ltb y i || eqb i y) (ltb y (i + 1))
        (λ u. lt→ltb y (i + 1) (some (ltb y i) (eqb i y) u (λ v. omega (arith, ltb→lt y i v)) (λ v. omega (arith, eqb→eq i y v)))) (λ u.
        let l = ltb→lt y (i + 1) u in
        ⊎_elim (λ k. let e : i ≡ y = omega arith in rw e (right (ltb y y) (eqb y y) (eqb_refl y))) (λ k. left (ltb y i) (eqb i y) (lt→ltb y i k))
        (le_or_lt i y))
      where
        some : {P : Type 0} (a b : Bool) → T (a || b) → (T a → P) → (T b → P) → P
        some true b u f g = f tt
        some false b u f g = g u

        left : (a b : Bool) → T a → T (a || b)
        left true b u = tt
        left false b u = absurd u

        right : (a b : Bool) → T b → T (a || b)
        right true b u = tt
        right false b u = u

-- no part
pub first-none : (x : ℕ) → has_part (record { low = 0; high = 0 }) x ≡ ltb x 0
unfolding has_part
first-none x = cond_case (λ r. r ≡ ltb x 0) (ltb x 64) (λ _. has-none x ∙ sym (below x)) (λ _. has-none (x - 64) ∙ sym (below x))
  where
    below : (y : ℕ) → ltb y 0 ≡ false
    below y = false_T (ltb y 0) (not_T (ltb y 0) (λ u. omega (arith, ltb→lt y 0 u)))
