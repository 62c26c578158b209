-- The definitions at functions that give the same.
use Prim.Native.Nat.{ℕ, zero, suc, ◌+◌, ◌-◌, ◌<◌}
use native.Mathlib.Omega.{arith}
use mathlib.Core.Path.{◌≡◌, refl, ap, ap₂}
use mathlib.Core.Bool.{Bool, not, cond, ◌&&◌, ◌||◌}
use mathlib.Core.List.{List, [], ◌∷◌}
use Rattle.model.specs.Count.{each, every}
use Rattle.model.specs.Plan.{choose2}
use Rattle.model.specs.Choice.{Mounted, from}
use Rattle.model.specs.Interval.{fills, is_run_of, inside, most, worth, pick_of, tip_by}
use Rattle.model.proofs.Largest.{largest_cong}
use Rattle.model.proofs.Choice.{choice_cong}

pub every_cong : (f g : ℕ → Bool) (m : ℕ) → ((t : ℕ) → t < m → f t ≡ g t) → every f m ≡ every g m
unfolding every
every_cong f g zero h = refl
every_cong f g (suc m) h = ap₂ ◌&&◌ (every_cong f g m (λ t l. h t (omega arith))) (h m (omega arith))

pub each_cong : {A : Type 0} (f g : A → Bool) (xs : List A) → ((x : A) → f x ≡ g x) → each f xs ≡ each g xs
unfolding each
each_cong f g [] h = refl
each_cong f g (x ∷ xs) h = ap₂ ◌&&◌ (h x) (each_cong f g xs h)

-- picks that are the same give each line the same tip
pub tip_cong : (p q : ℕ → ℕ → ℕ) → ((a w : ℕ) → p a w ≡ q a w) → (k a w s : ℕ) → tip_by p k a w s ≡ tip_by q k a w s
unfolding tip_by
tip_cong p q h zero a w s = refl
tip_cong p q h (suc k) a w s =
    let i = q a w in
    rw (h a w, tip_cong p q h k a i s, tip_cong p q h k (a + i + 1) (w - (i + 1)) s)

pub run_cong : (ok good : ℕ → Bool) → ((c : ℕ) → ok c ≡ good c) → (s : ℕ) → is_run_of ok s ≡ is_run_of good s
unfolding is_run_of
run_cong ok good h s = every_cong _ _ 64 (λ t _. ap (λ b. not b || fills s t) (h t))

module _ (ok good : ℕ → Bool) (xs ys : List ℕ) (h : (c : ℕ) → ok c ≡ good c)
    (g : (a w c : ℕ) → inside xs a w c ≡ inside ys a w c) where
  pub most_cong : (k a w : ℕ) → most ok k xs a w ≡ most good k ys a w
  unfolding most
  most_cong zero a w = refl
  most_cong (suc k) a w = largest_cong _ _ w (λ i l.
      ap₂ (λ b n. cond b n 0) (h (a + i)) (omega (arith, ap choose2 (g a w (a + i)), most_cong k a i, most_cong k (a + i + 1) (w - (i + 1)))))

  pub pick_cong : (mounted : Mounted) (a w : ℕ) → pick_of mounted ok xs a w ≡ pick_of mounted good ys a w
  unfolding pick_of worth
  pick_cong mounted a w = choice_cong (from a mounted) _ _ w (λ i l.
      ap₂ (λ b n. cond b (suc n) 0) (h (a + i))
      (omega (arith, ap choose2 (g a w (a + i)), most_cong i a i, most_cong (w - (i + 1)) (a + i + 1) (w - (i + 1)))))
