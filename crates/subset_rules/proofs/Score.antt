-- The score of a set of tips: it is the largest at one of its tips, and the tips picked attain it.
use Prim.Native.Nat.{ℕ, zero, suc, ◌+◌, ◌-◌, ◌^◌, ◌≤◌, ◌<◌}
use native.Mathlib.Omega.{arith}
use mathlib.Core.Path.{◌≡◌, refl, ap, sym, ◌∙◌}
use mathlib.Core.Logic.{⊎_elim}
use mathlib.Core.Bool.{not, cond}
use lib.Dec.{T, eqb-suc-zero}
use lib.Pow.{pow_pos}
use Rattle.model.specs.Count.{largest}
use Rattle.model.specs.Plan.{has}
use Rattle.model.specs.Choice.{Mounted}
use Rattle.model.proofs.Tests.{test, true_T, false_T, cond_case}
use Rattle.model.proofs.Largest.{largest_ge, largest_le, largest_cong, largest_zero}
use Rattle.model.proofs.Choice.{choice_attains}
use Rattle.model.proofs.Rank.{rank_le}
use Rattle.model.proofs.Sets.{has-below, has_some, some_tip}
use Rattle.subset_rules.specs.Subsets.{size, gain, taking, score_by, score, worth, pick, order}
use Rattle.subset_rules.specs.Chains.{Dominates, Picked, done, next}
use Rattle.subset_rules.proofs.Drop.{drop_lt, size-drop}

module _ (price : ℕ) (z : ℕ → ℕ) (m : ℕ) where
  -- k does not count once it is at least the number of tips
  score_enough : (k u : ℕ) → u < 2 ^ m → size m u ≤ k → score_by price z m (suc k) u ≡ score_by price z m k u
  unfolding score_by
  score_enough zero u b l =
      largest_cong _ (λ t. 0) m (λ t _. cond_case (λ x. x ≡ 0) (has u t) (λ h. absurd (omega (arith, size-drop m u t b h))) (λ _. refl))
      ∙ largest_zero m
  score_enough (suc k) u b l = largest_cong _ _ m (λ t _.
      ⊎_elim
      (λ h. ap (λ x. cond (has u t) (gain price (z u - z (u - 2 ^ t)) + x) 0)
      (score_enough k (u - 2 ^ t) (omega (arith, drop_lt u t h)) (omega (arith, size-drop m u t b h))))
      (λ n. rw (false_T (has u t) n))
      (test (has u t)))

  -- THE RECURSION: the score is the largest by itself at one of the tips
  pub score_step : (u : ℕ) → u < 2 ^ m → score price z m u ≡ largest (λ t. cond (has u t) (taking price z (score price z m) u t) 0) m
  unfolding score score_by
  score_step u b = sym (score_enough m u b (rank_le (has u) m))

  pub score_zero : score price z m 0 ≡ 0
  unfolding score score_by
  score_zero = sym (score_enough m 0 (omega (arith, pow_pos m)) (rank_le (has 0) m)) ∙ largest_cong _ (λ t. 0) m (λ t _.
      cond_case (λ x. x ≡ 0) (has 0 t) (λ h. absurd (omega (arith, has_some 0 t h))) (λ _. refl)) ∙ largest_zero m

  pub score_dominates : Dominates price z m (score price z m)
  score_dominates u t b h =
      let most = largest_ge (λ v. cond (has u v) (taking price z (score price z m) u v) 0) m t (has-below m u t b h) in
      rw (score_step u b) (rw (true_T (has u t) h) at most)

  pub worth-has : (u t : ℕ) → T (has u t) → worth price z m u t ≡ suc (taking price z (score price z m) u t)
  unfolding worth
  worth-has u t h = rw (true_T (has u t) h)

  pub worth-not : (u t : ℕ) → T (not (has u t)) → worth price z m u t ≡ 0
  unfolding worth
  worth-not u t n = rw (false_T (has u t) n)

  module _ (mounted : Mounted) (u : ℕ) (some : 0 < u) (b : u < 2 ^ m) where
    -- no tip is worth more than the one picked
    picked-most : (t : ℕ) → t < m → worth price z m u t ≤ worth price z m u (pick mounted price z m u)
    unfolding pick
    picked-most t l = omega (arith, largest_ge (worth price z m u) m t l, choice_attains (worth price z m u) mounted m)

    -- it is a tip of the set
    pub picked-has : T (has u (pick mounted price z m u))
    picked-has =
        let i = pick mounted price z m u in
        let (t, h, l) = some_tip (record { some = some; below = b }) in
        ⊎_elim (λ y. y) (λ n. absurd (omega (arith, worth-has u t h, worth-not u i n, picked-most t l))) (test (has u i))

    -- and the score is that with it
    pub picked-score : taking price z (score price z m) u (pick mounted price z m u) ≡ score price z m u
    picked-score =
        let i = pick mounted price z m u in
        let D = score price z m in
        let most : largest (λ t. cond (has u t) (taking price z D u t) 0) m ≤ taking price z D u i =
        largest_le _ m _ (λ t l. cond_case (λ x. x ≤ taking price z D u i) (has u t)
        (λ h. omega (arith, worth-has u t h, worth-has u i picked-has, picked-most t l)) (λ _. omega arith)) in
        omega (arith, score_step u b, score_dominates u i b picked-has)

  -- the tips in order are picked
  pub order-picked : (mounted : Mounted) (k u : ℕ) → u < 2 ^ m → size m u ≤ k
      → Picked price z (score price z m) (order mounted price z m k u) u
  unfolding order
  order-picked mounted zero zero b l = done
  order-picked mounted (suc k) zero b l = done
  order-picked mounted zero (suc n) b l =
      let (t, h, _) = some_tip (record { some = omega arith; below = b }) in
      absurd (omega (arith, size-drop m (suc n) t b h))
  order-picked mounted (suc k) (suc n) b l =
      let u = suc n in
      let t = pick mounted price z m u in
      let h = picked-has mounted u (omega arith) b in
      rw (eqb-suc-zero n) (next h (picked-score mounted u (omega arith) b)
      (order-picked mounted k (u - 2 ^ t) (omega (arith, drop_lt u t h)) (omega (arith, size-drop m u t b h))))
