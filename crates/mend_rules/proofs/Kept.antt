-- The lines that mending keeps: what becomes of a line, and laws of all that are kept.
use Prim.Native.Nat.{ℕ, ◌+◌, ◌-◌, ◌/◌, ◌%◌, ◌^◌, ◌≤◌, ◌<◌, max}
use native.Mathlib.Omega.{arith}
use native.Mathlib.Nat.{mod-lt, mod-eq_of_lt, pos_of_ne-zero}
use mathlib.Core.Path.{◌≡◌, refl, ap, ap₂, ◌∙◌}
use mathlib.Core.Logic.{⊎_elim}
use mathlib.Core.Bool.{Bool, true, false, cond, ◌&&◌, and-false}
use mathlib.Core.List.{List, [], ◌∷◌}
use lib.ListN.{length, take}
use lib.Dec.{T, not_T, ltb, eqb, ltb→lt, lt→ltb, eqb→eq}
use lib.Pow.{pow_pos, field, mod-mod-pow}
use borrow.Author.Tests.{lt-ltb, le-ltb, eqb-true, eqb-false}
use Rattle.model.specs.Count.{All, none, more, select}
use Rattle.model.specs.Plan.{has}
use Rattle.model.proofs.Tests.{le_or_lt, cond_case, false_T}
use Rattle.model.proofs.Sets.{has-below}
use Rattle.model.specs.Limits.{most_placements}
use Rattle.placements.specs.Repeated.{total}
use Rattle.placements.specs.Totals.{first_over}
use Rattle.job.specs.Job.{counted, JobLine}
use Rattle.job.proofs.Lines.{Held}
use Rattle.mend_rules.specs.Mending.{mended_line, left_empty, after, stays, kept}
use Rattle.mend_rules.specs.Rules.{placements_of, quantities_of, mended_lines, lines_within}
use Rattle.mend_rules.proofs.Lines.{GoodLine}

-- what becomes of a line, t being the running total before it
pub data Fate (m t : ℕ) (l : JobLine) : Type 0 where
  -- a line before it was dropped for the total, and so is it
  late : most_placements < t → after m t l ≡ t → stays m t l ≡ false → Fate m t l
  -- it has no tip in the rack
  bare : t ≤ most_placements → left_empty m l ≡ true → after m t l ≡ t → stays m t l ≡ false → Fate m t l
  -- the total passes with it
  passing : t ≤ most_placements → left_empty m l ≡ false → most_placements < t + (mended_line m l).quantity →
      after m t l ≡ t + (mended_line m l).quantity
      → stays m t l ≡ false → Fate m t l
  -- it is kept
  fitting : t ≤ most_placements → left_empty m l ≡ false → t + (mended_line m l).quantity ≤ most_placements →
      after m t l ≡ t + (mended_line m l).quantity
      → stays m t l ≡ true → Fate m t l

module _ (m t : ℕ) (l : JobLine) where
  pub fate : Fate m t l
  unfolding after stays
  fate =
      ⊎_elim
      (λ h. early h (left_empty m l) refl)
      (λ h. late h (rw (lt-ltb _ _ h)) (simp (lt-ltb most_placements t h, and-false)))
      (le_or_lt t most_placements)
    where
      early : t ≤ most_placements → (b : Bool) → left_empty m l ≡ b → Fate m t l
      early h true e = bare h e (rw (le-ltb most_placements t h, e)) (rw e)
      early h false e =
          ⊎_elim
          (λ k. fitting h e k (rw (le-ltb most_placements t h, e)) (simp (le-ltb most_placements t h, e, le-ltb most_placements _ k)))
          (λ k. passing h e k (rw (le-ltb most_placements t h, e)) (simp (le-ltb most_placements t h, e, lt-ltb most_placements _ k)))
          (le_or_lt (t + (mended_line m l).quantity) most_placements)

  -- a good line is as it was
  mended_same : GoodLine m l → mended_line m l ≡ l
  unfolding mended_line
  mended_same g =
      let e : max 1 l.quantity ≡ l.quantity = omega (arith, g.some) in
      ap₂ (λ s q. record { tips = s; quantity = q }) (mod-eq_of_lt g.domain.below) e

  -- a mended line that is not left empty is good
  mended_good : left_empty m l ≡ false → GoodLine m (mended_line m l)
  unfolding mended_line left_empty
  mended_good e = record {
    domain = record { some = pos_of_ne-zero (eqb-false _ _ e); below = mod-lt _ (pow_pos m) };
    some = omega arith;
  }

  -- the version that holds the quantity holds the mended one
  mended_fits : (v : ℕ) → Held v l.quantity → Held v (mended_line m l).quantity
  unfolding mended_line
  mended_fits v = by (counted v)
    where
      by : (b : Bool) → T (cond b (ltb l.quantity 256) (eqb l.quantity 1))
          → T (cond b (ltb (max 1 l.quantity) 256) (eqb (max 1 l.quantity) 1))
      by true h = lt→ltb (max 1 l.quantity) 256 (omega (arith, ltb→lt l.quantity 256 h))
      by false h = let e : max 1 l.quantity ≡ 1 = omega (arith, eqb→eq l.quantity 1 h) in rw e tt

  -- a good line that fits is kept
  pub good_fate : GoodLine m l → t + l.quantity ≤ most_placements → (left_empty m l ≡ false) × (after m t l ≡ t + l.quantity) × (stays m t l ≡ true)
  unfolding left_empty
  good_fate g h = by fate
    where
      by : Fate m t l → (left_empty m l ≡ false) × (after m t l ≡ t + l.quantity) × (stays m t l ≡ true)
      by (late k _ _) = absurd (omega arith)
      by (bare k e _ _) = absurd (omega (arith, eqb-true (mended_line m l).tips 0 e, ap (λ x. x.tips) (mended_same g), g.domain.some))
      by (passing k e p _ _) = absurd (omega (arith, ap (λ x. x.quantity) (mended_same g)))
      by (fitting k e p a s) = (e, a ∙ ap (λ x. t + x.quantity) (mended_same g), s)

-- a mended line has the tips of the line that are in the rack
pub mended_has : (m : ℕ) (l : JobLine) (u : ℕ) → has (mended_line m l).tips u ≡ (ltb u m && has l.tips u)
unfolding mended_line has
mended_has m l u = ⊎_elim outside inside (le_or_lt m u)
  where
    s : ℕ
    s = l.tips

    outside : m ≤ u → has (s % 2 ^ m) u ≡ (ltb u m && has s u)
    outside h = rw (le-ltb u m h) (false_T (has (s % 2 ^ m) u)
        (not_T (has (s % 2 ^ m) u) (λ x. omega (arith, has-below m (s % 2 ^ m) u (mod-lt s (pow_pos m)) x))))

    inside : u < m → has (s % 2 ^ m) u ≡ (ltb u m && has s u)
    inside h =
        let d = m - u - 1 in
        let e : m ≡ d + 1 + u = omega arith in
        rw (lt-ltb u m h) (ap (λ k. has (s % 2 ^ k) u) e ∙ ap (λ x. eqb (x % 2) 1) (field s (d + 1) u)
        ∙ ap (λ x. eqb x 1) (mod-mod-pow (s / 2 ^ u) d 1))

module _ (m : ℕ) where
  -- nothing is kept after a line that was dropped for the total
  kept_late : (t : ℕ) (lines : List JobLine) → most_placements < t → kept m t lines ≡ []
  unfolding kept
  kept_late t [] h = refl
  kept_late t (l ∷ lines) h = by (fate m t l) (kept_late t lines h)
    where
      by : Fate m t l → kept m t lines ≡ [] → kept m t (l ∷ lines) ≡ []
      by (late k a s) r = rw (s, a) r
      by (bare k _ _ _) r = absurd (omega arith)
      by (passing k _ _ _ _) r = absurd (omega arith)
      by (fitting k _ _ _ _) r = absurd (omega arith)

  -- the lines kept are good
  pub kept_good : (t : ℕ) (lines : List JobLine) → All (GoodLine m) (kept m t lines)
  unfolding kept
  kept_good t [] = none
  kept_good t (l ∷ lines) = by (fate m t l) (kept_good (after m t l) lines)
    where
      by : Fate m t l → All (GoodLine m) (kept m (after m t l) lines) → All (GoodLine m) (kept m t (l ∷ lines))
      by (late _ _ s) r = rw s r
      by (bare _ _ _ s) r = rw s r
      by (passing _ _ _ _ s) r = rw s r
      by (fitting _ e _ _ s) r = rw s (more (mended_good m t l e) r)

  -- the version that holds the quantities read holds those kept
  pub kept-fits : (v t : ℕ) {lines : List JobLine} → All (λ l. Held v l.quantity) lines → All (λ l. Held v l.quantity) (kept m t lines)
  unfolding kept
  kept-fits v t none = none
  kept-fits v t (more {x = l} h hs) =
      let r = kept-fits v (after m t l) hs in
      cond_case (All (λ l. Held v l.quantity)) (stays m t l) (λ _. more (mended_fits m t l v h) r) (λ _. r)

  pub length-kept : (t : ℕ) (lines : List JobLine) → length (kept m t lines) ≤ length lines
  unfolding kept
  length-kept t [] = omega arith
  length-kept t (l ∷ lines) =
      let r = length-kept (after m t l) lines in
      cond_case (λ k. length k ≤ length (l ∷ lines))
      (stays m t l) {x = mended_line m l ∷ kept m (after m t l) lines} {y = kept m (after m t l) lines} (λ _. omega arith) (λ _. omega arith)

  -- the total of the lines kept is within 2,048
  pub kept-within : (t : ℕ) (lines : List JobLine) → t ≤ most_placements → t + placements_of (kept m t lines) ≤ most_placements
  unfolding kept total
  kept-within t [] h = omega arith
  kept-within t (l ∷ lines) h = by (fate m t l) (kept-within t lines) (kept-within (t + (mended_line m l).quantity) lines)
    where
      q : ℕ
      q = (mended_line m l).quantity

      by : Fate m t l → (t ≤ most_placements → t + placements_of (kept m t lines) ≤ most_placements)
          → (t + q ≤ most_placements → t + q + placements_of (kept m (t + q) lines) ≤ most_placements)
          → t + placements_of (kept m t (l ∷ lines)) ≤ most_placements
      by (late k _ _) r f = absurd (omega arith)
      by (bare k _ a s) r f = rw (s, a) (r h)
      by (passing k _ p a s) r f = rw (s, a, kept_late (t + q) lines p) (omega arith)
      by (fitting k _ p a s) r f = rw (s, a) (omega (arith, f p))

  -- good lines within the total are all kept
  pub kept_same : (t : ℕ) {lines : List JobLine} → All (GoodLine m) lines → t + placements_of lines ≤ most_placements → kept m t lines ≡ lines
  unfolding kept total
  kept_same t none h = refl
  kept_same t (more {x = l} {xs = lines} g gs) h =
      let (e, a, s) = good_fate m t l g (omega arith) in
      rw (s, a) (ap₂ ◌∷◌ (mended_same m t l g) (kept_same (t + l.quantity) gs (omega arith)))

  -- the lines kept are the mended lines that are not left empty, up to the first with which the total passes
  kept_up_to : (t : ℕ) (lines : List JobLine) → t ≤ most_placements
      → kept m t lines ≡ take (first_over (most_placements - t) (quantities_of (mended_lines m lines))) (mended_lines m lines)
  unfolding kept select first_over left_empty
  kept_up_to t [] h = refl
  kept_up_to t (l ∷ lines) h = by (fate m t l) (kept_up_to t lines) (kept_up_to (t + (mended_line m l).quantity) lines)
    where
      q : ℕ
      q = (mended_line m l).quantity

      rest : List JobLine
      rest = mended_lines m lines

      by : Fate m t l → (t ≤ most_placements → kept m t lines ≡ take (first_over (most_placements - t) (quantities_of rest)) rest)
          → (t + q ≤ most_placements → kept m (t + q) lines ≡ take (first_over (most_placements - (t + q)) (quantities_of rest)) rest)
          → kept m t (l ∷ lines) ≡ take (first_over (most_placements - t) (quantities_of (mended_lines m (l ∷ lines)))) (mended_lines m (l ∷ lines))
      by (late k _ _) r f = absurd (omega arith)
      by (bare k e a s) r f = rw (s, a, e) (r h)
      by (passing k e p a s) r f = rw (s, a, e, lt-ltb (most_placements - t) q (omega arith)) (kept_late (t + q) lines p)
      by (fitting k e p a s) r f =
          let left : most_placements - t - q ≡ most_placements - (t + q) = omega arith in
          rw (s, a, e, le-ltb (most_placements - t) q (omega arith), left) (ap (λ x. mended_line m l ∷ x) (f p))

  pub kept_is : (lines : List JobLine) → kept m 0 lines ≡ lines_within m lines
  kept_is lines = kept_up_to 0 lines (omega arith)
