-- Lists one after the other: a mix, so that the laws of mixed lists apply.
use Prim.Native.Nat.{ℕ, zero, suc, ◌+◌}
use native.Mathlib.Omega.{arith}
use mathlib.Core.Path.{◌≡◌, refl, sym, ◌∙◌}
use mathlib.Core.Bool.{Bool, true, false, cond}
use mathlib.Core.List.{List, [], ◌∷◌, ◌++◌}
use lib.Dec.{T}
use lib.ListN.{replicate}
use Rattle.model.specs.Count.{count, All, none, more}
use Rattle.model.specs.Plan.{has, Valid, empty, line, pairs}
use Rattle.model.proofs.Mix.{Mix, end, left, right}
use Rattle.model.proofs.Pairs.{pairs_mix}

module _ {A : Type 0} where
  pub mix_append : (xs ys : List A) → Mix xs ys (xs ++ ys)
  mix_append [] [] = end
  mix_append [] (y ∷ ys) = right y (mix_append [] ys)
  mix_append (x ∷ xs) ys = left x (mix_append xs ys)

  -- the second part and the mix, both after the same list
  pub mix_after : (ws : List A) {xs ys zs : List A} → Mix xs ys zs → Mix xs (ws ++ ys) (ws ++ zs)
  mix_after [] m = m
  mix_after (w ∷ ws) m = right w (mix_after ws m)

  pub count-replicate : (f : A → Bool) (n : ℕ) (x : A) → count f (replicate n x) ≡ cond (f x) n 0
  unfolding count
  count-replicate f zero x = elim (f x) as (λ b. ◌≡◌ {A = ℕ} 0 (cond b 0 0)) [ true ↦ refl | false ↦ refl ]
  count-replicate f (suc n) x =
      let h = count-replicate f n x in
      elim (f x) as (λ b. count f (replicate n x) ≡ cond b n 0 → cond b 1 0 + count f (replicate n x) ≡ cond b (suc n) 0) [
        | true ↦ λ e. omega arith
        | false ↦ λ e. omega arith
      ] h

  module _ {P : A → Type 0} where
    pub all_append : {xs ys : List A} → All P xs → All P ys → All P (xs ++ ys)
    all_append none qs = qs
    all_append (more p ps) qs = more p (all_append ps qs)

    pub all_left : (xs ys : List A) → All P (xs ++ ys) → All P xs
    all_left [] ys ps = none
    all_left (x ∷ xs) ys (more p ps) = more p (all_left xs ys ps)

    pub all_right : (xs ys : List A) → All P (xs ++ ys) → All P ys
    all_right [] ys ps = ps
    all_right (x ∷ xs) ys (more p ps) = all_right xs ys ps

    pub all_replicate : (n : ℕ) (x : A) → P x → All P (replicate n x)
    all_replicate zero x p = none
    all_replicate (suc n) x p = more p (all_replicate n x p)

pub valid_append : {l r p q : List ℕ} → Valid l p → Valid r q → Valid (l ++ r) (p ++ q)
valid_append empty w = w
valid_append (line h v) w = line h (valid_append v w)

pub valid_replicate : (n s t : ℕ) → T (has s t) → Valid (replicate n s) (replicate n t)
valid_replicate zero s t h = empty
valid_replicate (suc n) s t h = line h (valid_replicate n s t h)

-- a mix has the pairs of its parts one after the other
pub pairs-joined : {p q plan : List ℕ} → Mix p q plan → pairs plan ≡ pairs (p ++ q)
pairs-joined {p} {q} m = pairs_mix m ∙ sym (pairs_mix (mix_append p q))
