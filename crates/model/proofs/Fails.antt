-- Laws of the first element that fails a test.
use Prim.Native.Nat.{ℕ, zero, suc, ◌+◌, ◌≤◌, ◌<◌}
use native.Mathlib.Omega.{arith}
use mathlib.Core.Path.{◌≡◌, refl, ap, ◌∙◌}
use mathlib.Core.Logic.{⊎_elim}
use mathlib.Core.Bool.{Bool, true, false, not, cond}
use mathlib.Core.List.{List, [], ◌∷◌}
use lib.ListN.{length, drop, get_or, drop_of_length-le}
use lib.Dec.{T}
use Rattle.std.specs.Prelude.{Some, None}
use Rattle.std.specs.List.{position_or_len}
use Rattle.std.proofs.lemmas.List.Recursion.{is_position_or_len}
use borrow.Author.Tests.{lt-ltb, le-ltb}
use Rattle.model.specs.Count.{All, none, more, first_fail, place_in}
use Rattle.model.proofs.Tests.{test, true_T, false_T, cond_case}
use Rattle.model.proofs.Loops.{fail_rest}

module _ {A : Type 0} (f : A → Bool) where
  -- where each element passes there is no first that fails
  pub fails_none : {xs : List A} → All (λ x. T (f x)) xs → first_fail f xs ≡ length xs
  unfolding first_fail
  fails_none none = refl
  fails_none (more {x} {xs} t ts) = rw (true_T (f x) t) (ap suc (fails_none ts))

  -- where there is no first that fails each element passes
  pub none_fails : (xs : List A) → length xs ≤ first_fail f xs → All (λ x. T (f x)) xs
  unfolding first_fail
  none_fails [] h = none
  none_fails (x ∷ xs) h =
      ⊎_elim
      (λ t. let g = rw (true_T (f x) t) at h in more {x = x} t (none_fails xs (omega arith)))
      (λ n. let g = rw (false_T (f x) n) at h in absurd (omega arith))
      (test (f x))

  pub fails_most : (xs : List A) → first_fail f xs ≤ length xs
  unfolding first_fail
  fails_most [] = omega arith
  fails_most (x ∷ xs) = cond_case (λ k. k ≤ suc (length xs)) (f x) (λ _. omega (arith, fails_most xs)) (λ _. omega arith)

  -- the first that fails is the first that passes the opposite test
  pub fail_position : (xs : List A) → first_fail f xs ≡ position_or_len (λ x. not (f x)) xs
  unfolding first_fail
  fail_position = is_position_or_len (first_fail f) (λ x. not (f x)) refl (λ x xs. flip (f x) (first_fail f xs))
    where
      flip : (b : Bool) (n : ℕ) → cond b (suc n) 0 ≡ cond (not b) 0 (1 + n)
      flip true n = omega arith
      flip false n = refl

module _ (f : ℕ → Bool) where
  -- the first that fails does so
  pub fails_at : (xs : List ℕ) → first_fail f xs < length xs → T (not (f (get_or xs (first_fail f xs) 0)))
  unfolding first_fail
  fails_at [] h = absurd (omega arith)
  fails_at (x ∷ xs) h =
      ⊎_elim
      (λ t. let g = rw (true_T (f x) t) at h in rw (true_T (f x) t) (fails_at xs (omega arith)))
      (λ n. rw (false_T (f x) n) n)
      (test (f x))

  -- and those before it pass
  pub fails_first : (xs : List ℕ) (i : ℕ) → i < first_fail f xs → T (f (get_or xs i 0))
  unfolding first_fail
  fails_first [] i h = absurd (omega arith)
  fails_first (x ∷ xs) i h =
      ⊎_elim
      (λ t. go i t (rw (true_T (f x) t) at h) (fails_first xs))
      (λ n. let g = rw (false_T (f x) n) at h in absurd (omega arith))
      (test (f x))
    where
      go : (i : ℕ) → T (f x) → i < suc (first_fail f xs) → ((j : ℕ) → j < first_fail f xs → T (f (get_or xs j 0))) → T (f (get_or (x ∷ xs) i 0))
      go zero t g ih = t
      go (suc i) t g ih = ih i (omega arith)

  -- one more element tested, by the test's result
  pub fails_next : (xs : List ℕ) (i : ℕ) (b : Bool) → i < length xs → b ≡ f (get_or xs i 0) → first_fail f xs ≡ i + first_fail f (drop i xs)
      → first_fail f xs ≡ cond b (i + 1 + first_fail f (drop (i + 1) xs)) i
  fails_next xs i b h e inv = inv ∙ ap (λ k. i + k) (fail_rest f xs i h) ∙ by (f (get_or xs i 0)) e
    where
      by : (t : Bool) → b ≡ t → i + cond t (suc (first_fail f (drop (i + 1) xs))) 0 ≡ cond b (i + 1 + first_fail f (drop (i + 1) xs)) i
      by true q = rw q (omega arith)
      by false q = rw q (omega arith)

  -- no element left to test
  pub fails_end : (xs : List ℕ) (i : ℕ) → length xs ≤ i → first_fail f xs ≡ i + first_fail f (drop i xs) → first_fail f xs ≡ i
  unfolding first_fail
  fails_end xs i h inv = omega (arith, inv, ap (first_fail f) (drop_of_length-le xs h))

-- a place that is found, and none
pub found_place : {i j n : ℕ} → i < n → i ≡ j → Some i ≡ place_in j n
found_place {i} {j} {n} h e = rw (← e, lt-ltb i n h) refl

pub no_place : {i j n : ℕ} → i ≡ j → n ≤ i → None ≡ place_in j n
no_place {i} {j} {n} e h = rw (← e, le-ltb i n h) refl
