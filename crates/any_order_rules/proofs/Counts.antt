-- A permutation of lines with quantities keeps every count; and what the counts of two lists settle.
use Prim.Native.Nat.{ℕ, ◌+◌}
use native.Mathlib.Nat.{ℕ_set}
use native.Mathlib.Omega.{arith}
use mathlib.Core.Path.{◌≡◌, refl, ap, sym, ◌∙◌}
use mathlib.Core.Bool.{Bool, true, false, not, cond, ◌&&◌}
use mathlib.Core.List.Perm
use mathlib.Core.List.{List, [], ◌∷◌, foldr, zip, zip_with, Perm}
use lib.Dec.{eqb}
use lib.ListN.{length}
use borrow.Author.Tests.{ne_eqb}
use Rattle.model.specs.Count.{count, select, each}
use Rattle.model.proofs.Lists.{count-select}
use Rattle.placements.specs.Repeated.{repeated, weighted}
use Rattle.placements.proofs.Repeated.{count-repeated}
use Rattle.any_order_rules.specs.Order.{SameCounts, Hides}

-- what the lines weigh together
weight : (ℕ × ℕ → ℕ) → List (ℕ × ℕ) → ℕ
weight g = foldr (λ l n. g l + n) 0

perm_weight : (g : ℕ × ℕ → ℕ) {xs ys : List (ℕ × ℕ)} → Perm xs ys → weight g xs ≡ weight g ys
unfolding weight
perm_weight g p = Perm.foldr-eq ℕ_set (λ l n. g l + n) (λ a b n. omega arith) p 0

module _ (f : ℕ → Bool) where
  -- the placements that pass a test, and the lines that do, as weights
  weigh_placements : (qs sets : List ℕ) → weighted f qs sets ≡ weight (λ l. cond (f l.0) l.1 0) (zip sets qs)
  unfolding weighted weight zip zip_with
  weigh_placements [] [] = refl
  weigh_placements [] (s ∷ sets) = refl
  weigh_placements (q ∷ qs) [] = refl
  weigh_placements (q ∷ qs) (s ∷ sets) = ap (λ n. cond (f s) q 0 + n) (weigh_placements qs sets)

  weigh_lines : (qs sets : List ℕ) → length qs ≡ length sets → count f sets ≡ weight (λ l. cond (f l.0) 1 0) (zip sets qs)
  unfolding count weight zip zip_with
  weigh_lines [] [] e = refl
  weigh_lines [] (s ∷ sets) e = absurd (omega arith)
  weigh_lines (q ∷ qs) [] e = absurd (omega arith)
  weigh_lines (q ∷ qs) (s ∷ sets) e = ap (λ n. cond (f s) 1 0 + n) (weigh_lines qs sets (omega arith))

-- THE COUNTS DO NOT CHANGE: lines, each with its quantity, in another order
module _ (qs xs rs ys : List ℕ) (p : Perm (zip xs qs) (zip ys rs)) where
  pub placements-counts : SameCounts (repeated qs xs) (repeated rs ys)
  placements-counts f =
      count-repeated f qs xs
      ∙ weigh_placements f qs xs
      ∙ perm_weight (λ l. cond (f l.0) l.1 0) p
      ∙ sym (count-repeated f rs ys ∙ weigh_placements f rs ys)

  pub lines-counts : length qs ≡ length xs → length rs ≡ length ys → SameCounts xs ys
  lines-counts e g f = weigh_lines f qs xs e ∙ perm_weight (λ l. cond (f l.0) 1 0) p ∙ sym (weigh_lines f rs ys g)

-- ---- what counts settle

module _ {A : Type 0} where
  count-all : (xs : List A) → count (λ x. true) xs ≡ length xs
  unfolding count
  count-all [] = refl
  count-all (x ∷ xs) = omega (arith, count-all xs)

  -- each element passes where none fails
  each-count : (f : A → Bool) (xs : List A) → each f xs ≡ eqb (count (λ x. not (f x)) xs) 0
  unfolding each count
  each-count f [] = refl
  each-count f (x ∷ xs) = by (f x) (each-count f xs)
    where
      n : ℕ
      n = count (λ x. not (f x)) xs

      by : (b : Bool) → each f xs ≡ eqb n 0 → (b && each f xs) ≡ eqb (cond (not b) 1 0 + n) 0
      by true e = let z : n ≡ 0 + n = omega arith in e ∙ ap (λ k. eqb k 0) z
      by false e = sym (ne_eqb (1 + n) 0 (λ z. omega arith))

pub length_hides : Hides {A = ℕ} length
length_hides xs ys h = sym (count-all xs) ∙ h (λ x. true) ∙ count-all ys

pub each_hides : (f : ℕ → Bool) → Hides (each f)
each_hides f xs ys h = each-count f xs ∙ ap (λ n. eqb n 0) (h (λ x. not (f x))) ∙ sym (each-count f ys)

-- what a test selects has the same counts too
pub select-counts : (f : ℕ → Bool) (xs ys : List ℕ) → SameCounts xs ys → SameCounts (select f xs) (select f ys)
select-counts f xs ys h g = count-select f g xs ∙ h (λ x. f x && g x) ∙ sym (count-select f g ys)
