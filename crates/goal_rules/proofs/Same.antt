-- Lines of equal set and quantity have the same tips that meet the goal: the placements of the others differ in their order alone.
use Prim.Native.Nat.{ℕ, ◌<◌}
use native.Mathlib.Omega.{arith}
use mathlib.Core.Path.{◌≡◌, ap, ap₂}
use mathlib.Core.Bool.{Bool, ◌&&◌}
use mathlib.Core.List.{List}
use lib.Dec.{leb, ltb}
use lib.ListN.{length, get_or, replicate}
use Rattle.model.specs.Count.{count}
use Rattle.model.specs.Plan.{has, occ}
use Rattle.model.specs.Interval.{lies, inside, named, C}
use Rattle.model.proofs.Cong.{most_cong}
use Rattle.model.proofs.Mix.{count_mix}
use Rattle.model.proofs.Sets.{set_of_cong}
use Rattle.goal_rules.specs.Goal.{only, others, joined, goal_tips}
use Rattle.model.proofs.Append.{mix_append}
use Rattle.goal_rules.proofs.Without.{mix_repeated}

-- lists with the same counts have the same most pairs
C-counts : (xs ys : List ℕ) → ((f : ℕ → Bool) → count f xs ≡ count f ys) → (a w : ℕ) → C xs a w ≡ C ys a w
unfolding C named occ inside
C-counts xs ys h a w = most_cong (named xs) (named ys) xs ys
    (λ c. ap (ltb 0) (h (λ s. has s c))) (λ b v c. h (λ s. lies b v s && has s c)) w a w

module _ (qs sets : List ℕ) (e : length qs ≡ length sets) {i j : ℕ} (l : i < length sets) (h : j < length sets)
    (quantity : get_or qs i 0 ≡ get_or qs j 0) (set : get_or sets i 0 ≡ get_or sets j 0) where
  -- the placements of the others, with those of the line on one tip
  joined-counts : (q t : ℕ) (f : ℕ → Bool) → count f (joined (others qs sets i) q t) ≡ count f (joined (others qs sets j) q t)
  joined-counts q t f = omega (
    arith,
    count_mix f (mix_repeated qs sets i e l),
    count_mix f (mix_repeated qs sets j e h),
    ap₂ (λ n s. count f (replicate n s)) quantity set,
    count_mix f (mix_append (replicate q (only t)) (others qs sets i)),
    count_mix f (mix_append (replicate q (only t)) (others qs sets j)),
  )

  -- THE SAME TIPS
  pub same_tips : (m K : ℕ) → goal_tips m qs sets K i ≡ goal_tips m qs sets K j
  unfolding goal_tips
  same_tips m K = rw (set, quantity) (set_of_cong _ _ m (λ t _.
      let q = get_or qs j 0 in
      let more = C-counts (joined (others qs sets i) q t) (joined (others qs sets j) q t) (joined-counts q t) 0 m in
      ap (λ n. has (get_or sets j 0) t && leb K n) more))
