-- A list whose first places are the values of a function.
use Prim.Native.Nat.{ℕ, zero, suc, ◌+◌, ◌<◌, ◌≤◌}
use native.Mathlib.Omega.{arith}
use native.Mathlib.Numerals.{add-one}
use mathlib.Core.Path.{◌≡◌, refl, ap, ◌∙◌}
use mathlib.Core.List.{List, [], ◌∷◌, ◌++◌}
use lib.ListN.{length, get_or, set, drop, length-append, length-drop, get_or-append}
use Rattle.model.specs.Count.{list_of}
use Rattle.model.proofs.ListOf.{length-list_of, list_of-at}

-- f 0 to f (n - 1), and then the list as it was
abbrev pub listed : (ℕ → ℕ) → ℕ → List ℕ → List ℕ
listed f n xs = list_of f n ++ drop n xs

listed_suc : (f : ℕ → ℕ) (n : ℕ) (xs : List ℕ) → n < length xs → set (listed f n xs) n (f n) ≡ listed f (suc n) xs
unfolding list_of
listed_suc f n [] h = absurd (omega arith)
listed_suc f zero (x ∷ xs) h = refl
listed_suc f (suc n) (x ∷ xs) h = ap (λ l. f 0 ∷ l) (listed_suc (λ k. f (suc k)) n xs (omega arith))

pub listed-first : (f : ℕ → ℕ) (xs : List ℕ) → xs ≡ listed f 0 xs
unfolding list_of
listed-first f xs = refl

module _ (f : ℕ → ℕ) (n : ℕ) (xs : List ℕ) where
  pub listed_more : n < length xs → set (listed f n xs) n (f n) ≡ listed f (n + 1) xs
  listed_more h = rw add-one (listed_suc f n xs h)

  pub length-listed : n ≤ length xs → length (listed f n xs) ≡ length xs
  length-listed h = simp (length-append, length-list_of, length-drop) (omega arith)

  pub listed_at : (k : ℕ) → k < n → get_or (listed f n xs) k 0 ≡ f k
  listed_at k h = get_or-append (list_of f n) (drop n xs) 0 k (rw length-list_of h) ∙ list_of-at f n k h
