-- Laws for loops: one part more placed, one part fewer left.
use Prim.Native.Nat.{ℕ, suc, ◌+◌, ◌-◌, ◌≤◌, ◌<◌}
use native.Mathlib.Numerals.{add-one}
use native.Mathlib.Omega.{arith}
use mathlib.Core.Path.{◌≡◌, refl, ap}
use mathlib.Core.Bool.{Bool}
use mathlib.Core.List.{List, [], ◌∷◌, ◌++◌}
use mathlib.Core.Option.{Option, none, some}
use lib.Dec.{ltb, not_T, lt→ltb, ltb→lt}
use lib.ListN.{length, take, set}
use lib.Seq.{take-suc-set}
use Rattle.model.proofs.Tests.{true_T, false_T}
use Rattle.order_rules.specs.Number.{without}
use Rattle.order_rules.specs.Order.{Task}
use Rattle.order_rules.specs.Prefer.{Choice}
use Rattle.order_rules.specs.Least.{pick_by, prepend, greedy_by, earliest, relax, settle}

-- several parts in front of an order, if there is one
abbrev pub prepend_all : List ℕ → Option (List ℕ) → Option (List ℕ)
prepend_all [] r = r
prepend_all (x ∷ xs) r = prepend x (prepend_all xs r)

pub prepend-none : (xs : List ℕ) → prepend_all xs none ≡ none
unfolding prepend
prepend-none [] = refl
prepend-none (x ∷ xs) = rw (prepend-none xs)

pub prepend_end : (xs : List ℕ) → prepend_all xs (some []) ≡ some xs
unfolding prepend
prepend_end [] = refl
prepend_end (x ∷ xs) = rw (prepend_end xs)

prepend-more : (xs : List ℕ) (x : ℕ) (r : Option (List ℕ)) → prepend_all (xs ++ (x ∷ [])) r ≡ prepend_all xs (prepend x r)
prepend-more [] x r = refl
prepend-more (y ∷ xs) x r = ap (prepend y) (prepend-more xs x r)

-- the part x written at position p is one more in front
pub placed-more : (order : List ℕ) (p x : ℕ) (r : Option (List ℕ)) → p < length order
    → prepend_all (take (p + 1) (set order p x)) r ≡ prepend_all (take p order) (prepend x r)
placed-more order p x r l = rw (add-one, take-suc-set order p x l) (prepend-more (take p order) x r)

-- position p with a pick, and without one
module _ {S : Type 0} (choose : Choice S) (after : ℕ → S) (t : Task) (s : S) (left : ℕ → Bool) (p : ℕ) (l : p < t.size) where
  pub greedy_picks : (x : ℕ) → x ≡ pick_by choose t p s left → x < t.size
      → greedy_by choose after t (t.size - p) p s left ≡ prepend x (greedy_by choose after t (t.size - (p + 1)) (p + 1) (after x) (without x left))
  unfolding greedy_by
  greedy_picks x q h =
      let e : t.size - p ≡ suc (t.size - (p + 1)) = omega arith in
      rw (e, ← q, true_T (ltb x t.size) (lt→ltb _ _ h), add-one)

  pub greedy_stops : t.size ≤ pick_by choose t p s left → greedy_by choose after t (t.size - p) p s left ≡ none
  unfolding greedy_by
  greedy_stops h =
      let x = pick_by choose t p s left in
      let e : t.size - p ≡ suc (t.size - (p + 1)) = omega arith in
      rw (e, false_T (ltb x t.size) (not_T (ltb x t.size) (λ u. omega (arith, ltb→lt x t.size u))))

module _ (t : Task) (left : ℕ → Bool) where
  -- the last positions after one part more
  pub settle-more : (lasts : List ℕ) (j : ℕ) → j < t.size
      → settle t (t.size - j) left lasts
      ≡ settle t (t.size - (j + 1)) (without (earliest t left lasts) left) (relax t (earliest t left lasts) lasts)
  unfolding settle
  settle-more lasts j l =
      let e : t.size - j ≡ suc (t.size - (j + 1)) = omega arith in
      rw e
