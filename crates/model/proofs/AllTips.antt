-- The most pairs of an interval do not change if the tips that no line has may be chosen too.
use Prim.Native.Nat.{ℕ, zero, suc, ◌+◌, ◌-◌, ◌≤◌, ◌<◌, zero-le}
use native.Mathlib.Omega.{arith}
use native.Mathlib.Nat.{le_refl}
use mathlib.Core.Path.{◌≡◌, ap, sym, ◌∙◌}
use mathlib.Core.Logic.{⊎_elim}
use mathlib.Core.Bool.{Bool, not, ◌&&◌}
use mathlib.Core.List.{List}
use lib.Dec.{T, nltb→le}
use lib.ListN.{length}
use Rattle.model.specs.Count.{largest}
use Rattle.model.specs.Plan.{has, occ, choose2}
use Rattle.model.specs.Choice.{bare}
use Rattle.model.specs.Interval.{named, lies, inside, split, most_of, pick_of}
use Rattle.model.proofs.Tests.{test, cond_case, and_left, and_right, and_in}
use Rattle.model.proofs.Lists.{count_mono, count_le}
use Rattle.model.proofs.Pairs.{choose2_square, choose2_mono}
use Rattle.model.proofs.Largest.{largest_le, largest_mono, largest_cong}
use Rattle.model.proofs.Interval.{span, in_span}
use Rattle.model.proofs.Most.{counted, most_ge, most-counted, pick_attains}

-- no more lines lie within a part of an interval
inside-part : (lines : List ℕ) (a w b v c : ℕ) → a ≤ b → b + v ≤ a + w → inside lines b v c ≤ inside lines a w c
unfolding inside
inside-part lines a w b v c l h =
    count_mono _ _ lines (λ s t.
    let (x, y) = span b v s (and_left (lies b v s) (has s c) t) in
    and_in (lies a w s) (has s c) (in_span a w s (omega arith) (omega arith)) (and_right (lies b v s) (has s c) t))

-- no more lines lie within an interval than there are
pub inside-length : (lines : List ℕ) (a w c : ℕ) → inside lines a w c ≤ length lines
unfolding inside
inside-length lines a w c = count_le _ lines

-- no line of an interval has a tip that no line has
pub inside-none : (lines : List ℕ) (a w c : ℕ) → occ lines c ≡ 0 → inside lines a w c ≡ 0
unfolding inside occ
inside-none lines a w c z = omega (arith, count_mono (λ s. lies a w s && has s c) (λ s. has s c) lines (λ s t. and_right (lies a w s) (has s c) t))

module _ (ok : ℕ → Bool) (lines : List ℕ) where
  abbrev D : ℕ → ℕ → ℕ
  D = most_of ok lines

  -- two intervals beside a tip have no more pairs than the interval of both and the tip
  pub most_join : (k a w i : ℕ) → w ≤ k → i < w → D a i + D (a + i + 1) (w - (i + 1)) ≤ D a w
  most_join zero a w i h l = absurd (omega arith)
  most_join (suc k) a w i h l = ⊎_elim (λ (p, o, e). before (pick_of bare ok lines a i) p o e (most_join k))
      (λ (f, z). ⊎_elim (λ (p, o, e). behind (pick_of bare ok lines (a + i + 1) v) p o e z (most_join k)) (λ (g, y). omega arith)
      (pick_attains ok lines bare (a + i + 1) v)) (pick_attains ok lines bare a i)
    where
      v : ℕ
      v = w - (i + 1)

      Join : Type 0
      Join = (b u j : ℕ) → u ≤ k → j < u → D b j + D (b + j + 1) (u - (j + 1)) ≤ D b u

      before : (j : ℕ) → j < i → T (ok (a + j)) → split D lines a i j ≡ D a i → Join → D a i + D (a + i + 1) v ≤ D a w
      before j p o e ih =
          let x : a + j + 1 + (i - (j + 1)) + 1 ≡ a + i + 1 = omega arith in
          let y : w - (j + 1) - (i - (j + 1) + 1) ≡ v = omega arith in
          let r = rw (x, y) at (ih (a + j + 1) (w - (j + 1)) (i - (j + 1)) (omega arith) (omega arith)) in
          omega (arith, most_ge ok lines a w j (omega arith) o, choose2_mono (inside-part lines a w a i (a + j) (omega arith) (omega arith)))

      behind : (j : ℕ) → j < v → T (ok (a + i + 1 + j)) → split D lines (a + i + 1) v j ≡ D (a + i + 1) v → D a i ≡ 0
          → Join → D a i + D (a + i + 1) v ≤ D a w
      behind j p o e z ih =
          let n = i + 1 + j in
          let x : a + n ≡ a + i + 1 + j = omega arith in
          let y : w - (n + 1) ≡ v - (j + 1) = omega arith in
          let q : n - (i + 1) ≡ j = omega arith in
          let r = rw q at (ih a n i (omega arith) (omega arith)) in
          let s = rw (x, y) at (most_ge ok lines a w n (omega arith) (rw x o)) in
          omega (arith, choose2_mono (inside-part lines a w (a + i + 1) v (a + i + 1 + j) (omega arith) (omega arith)))

  -- a tip that attains the most of the first of them has a split of the whole that is no less
  pub most-left : (a w i j : ℕ) → i < w → j < i → split D lines a i j ≡ D a i
      → D a i + D (a + i + 1) (w - (i + 1)) ≤ split D lines a w j
  most-left a w i j l p e =
      let x : a + j + 1 + (i - (j + 1)) + 1 ≡ a + i + 1 = omega arith in
      let y : w - (j + 1) - (i - (j + 1) + 1) ≡ w - (i + 1) = omega arith in
      let r = rw (x, y) at (most_join w (a + j + 1) (w - (j + 1)) (i - (j + 1)) (omega arith) (omega arith)) in
      omega (arith, choose2_mono (inside-part lines a w a i (a + j) (omega arith) (omega arith)))

  -- THE MOST IS THE LARGEST SPLIT OVER ALL TIPS, where each tip that is not ok is one that no line has
  pub most-split : ((c : ℕ) → T (not (ok c)) → occ lines c ≡ 0) → (a w : ℕ) → D a w ≡ largest (split D lines a w) w
  most-split free a w =
      omega (
        arith,
        most-counted ok lines a w,
        largest_mono _ _ w (λ i l. less i),
        largest_le (split D lines a w) w (D a w)
            (λ i l. ⊎_elim (most_ge ok lines a w i l) (unused i l) (test (ok (a + i)))),
      )
    where
      less : (i : ℕ) → counted ok lines D a w i ≤ split D lines a w i
      less i = cond_case (λ x. x ≤ split D lines a w i) (ok (a + i)) (λ _. le_refl _) (λ _. zero-le)

      unused : (i : ℕ) → i < w → T (not (ok (a + i))) → split D lines a w i ≤ D a w
      unused i l n =
          let z : inside lines a w (a + i) ≡ 0 = inside-none lines a w (a + i) (free (a + i) n) in
          omega (arith, ap choose2 z, choose2_square 0, most_join w a w i (omega arith) l)

-- only one table is the largest split of each interval by itself
pub split-only : (lines : List ℕ) (E F : ℕ → ℕ → ℕ) → ((a w : ℕ) → E a w ≡ largest (split E lines a w) w)
    → ((a w : ℕ) → F a w ≡ largest (split F lines a w) w)
    → (k a w : ℕ) → w ≤ k → E a w ≡ F a w
unfolding largest
split-only lines E F e f zero a zero h = e a 0 ∙ sym (f a 0)
split-only lines E F e f zero a (suc w) h = absurd (omega arith)
split-only lines E F e f (suc k) a w h =
    e a w ∙ largest_cong _ _ w (λ i l.
    omega (arith, split-only lines E F e f k a i (omega arith), split-only lines E F e f k (a + i + 1) (w - (i + 1)) (omega arith))) ∙ sym (f a w)

-- no line has a tip that is not named
pub unnamed_none : (lines : List ℕ) (c : ℕ) → T (not (named lines c)) → occ lines c ≡ 0
unfolding named
unnamed_none lines c n = omega (arith, nltb→le 0 (occ lines c) n)
