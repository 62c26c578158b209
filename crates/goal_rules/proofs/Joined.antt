-- The lines with q more that have tip t alone: what an interval then counts.
use Prim.Native.Nat.{ℕ, ◌+◌, ◌≤◌, ◌<◌}
use native.Mathlib.Omega.{arith}
use mathlib.Core.Path.{◌≡◌}
use mathlib.Core.Bool.{Bool, cond, ◌&&◌}
use mathlib.Core.List.{List}
use lib.ListN.{replicate}
use lib.Dec.{T, not_T}
use Rattle.model.specs.Count.{All}
use Rattle.model.specs.Plan.{has}
use Rattle.model.specs.Interval.{Line, lies, inside}
use Rattle.model.proofs.Tests.{true_T, false_T, and_left, and_right, and_in}
use Rattle.model.proofs.Mix.{count_mix}
use Rattle.model.proofs.Interval.{span, in_span}
use Rattle.goal_rules.specs.Goal.{only, joined}
use Rattle.model.proofs.Append.{all_append, all_replicate, mix_append, count-replicate}
use Rattle.goal_rules.proofs.Only.{has-only, only-has, only-low, only_high, only-line}

-- they are lines where the others are, for a test that t passes
pub joined-lines : {ok : ℕ → Bool} {m : ℕ} {rest : List ℕ} → m ≤ 64 → All (Line ok m) rest → (q t : ℕ) → t < m → T (ok t)
    → All (Line ok m) (joined rest q t)
joined-lines narrow ls q t l g = all_append (all_replicate q (only t) (only-line l narrow g)) ls

module _ (rest : List ℕ) (q t : ℕ) where
  -- they count where the interval and the tip are theirs
  pub inside-joined : (a w c : ℕ) → inside (joined rest q t) a w c ≡ cond (lies a w (only t) && has (only t) c) q 0 + inside rest a w c
  unfolding inside
  inside-joined a w c =
      let f : ℕ → Bool = λ s. lies a w s && has s c in
      omega (arith, count_mix f (mix_append (replicate q (only t)) rest), count-replicate f q (only t))

  inside_else : (a w c : ℕ) → (T (lies a w (only t)) → T (has (only t) c) → ⊥) → inside (joined rest q t) a w c ≡ inside rest a w c
  inside_else a w c n =
      let b = lies a w (only t) && has (only t) c in
      let z = not_T b (λ h. n (and_left (lies a w (only t)) (has (only t) c) h) (and_right (lies a w (only t)) (has (only t) c) h)) in
      rw (inside-joined a w c, false_T b z) (omega arith)

  -- not at another tip
  pub inside-tip : (a w c : ℕ) → (c ≡ t → ⊥) → inside (joined rest q t) a w c ≡ inside rest a w c
  inside-tip a w c n = inside_else a w c (λ _ h. n (only-has t c h))

  module _ {m : ℕ} (narrow : m ≤ 64) (l : t < m) where
    -- at t, where the interval has t
    pub inside-at : (a w : ℕ) → a ≤ t → t < a + w → inside (joined rest q t) a w t ≡ inside rest a w t + q
    inside-at a w p r =
        let h = in_span a w (only t) (omega (arith, only-low l narrow)) (omega (arith, only_high l narrow)) in
        let b = lies a w (only t) && has (only t) t in
        rw (inside-joined a w t, true_T b (and_in (lies a w (only t)) (has (only t) t) h (has-only t))) (omega arith)

    -- an interval within one without t counts the same
    pub inside-apart : (a w : ℕ) → (a ≤ t → t < a + w → ⊥) → (c v u : ℕ) → a ≤ c → c + v ≤ a + w
        → inside (joined rest q t) c v u ≡ inside rest c v u
    inside-apart a w n c v u p r = inside_else c v u (λ h _.
        let k = span c v (only t) h in n (omega (arith, only-low l narrow)) (omega (arith, only_high l narrow)))
