-- The changes made to all lines: each line's, one line after the other.
use Prim.Native.Nat.{ℕ, zero, suc, ◌+◌, ◌*◌, ◌≤◌, ◌<◌}
use native.Mathlib.Omega.{arith}
use native.Mathlib.Nat.{zero-add}
use mathlib.Core.Path.{◌≡◌, refl, sym, ap}
use mathlib.Core.Logic.{◌↔◌, ⊎_elim}
use mathlib.Core.Bool.{Bool, true, false, cond}
use mathlib.Core.List.Memᴰ
use mathlib.Core.List.{List, [], ◌∷◌, map, map-append, Memᴰ}
use lib.ListN.{length, take, get_or, length-append, length-map}
use Rattle.model.specs.Count.{All, none, more}
use Rattle.model.proofs.Lists.{all_map, all-mapped, map-map}
use Rattle.model.specs.Limits.{most_placements}
use Rattle.placements.specs.Repeated.{total}
use Rattle.model.proofs.Append.{all_append}
use Rattle.job.specs.Job.{JobLine}
use Rattle.mend_rules.specs.Mending.{over, after, codes, running, changes}
use Rattle.mend_rules.specs.Rules.{placements_of, no_line, Told, Rising, end, place}
use Rattle.mend_rules.proofs.Lines.{GoodLine}
use Rattle.mend_rules.proofs.Rising.{rising_append, rising_add}
use Rattle.mend_rules.proofs.Kept.{good_fate}
use Rattle.mend_rules.proofs.Codes.{codes_all, codes-none, codes_rising, length-codes}

module _ (m : ℕ) where
  -- good lines within the total have no change
  pub changes-none : (i t : ℕ) {lines : List JobLine} → All (GoodLine m) lines → t + placements_of lines ≤ most_placements → changes m i t lines ≡ []
  unfolding changes total
  changes-none i t none h = refl
  changes-none i t (more {x = l} g gs) h =
      let (_, a, _) = good_fate m t l g (omega arith) in
      rw (codes-none m t l g (omega arith), a) (changes-none (suc i) (t + l.quantity) gs (omega arith))

  -- at most two a line, and one more
  pub length-changes : (i t : ℕ) (lines : List JobLine) → length (changes m i t lines) + cond (over t) 1 0 ≤ 2 * length lines + 1
  unfolding changes
  length-changes i t [] = by (over t)
    where
      by : (b : Bool) → 0 + cond b 1 0 ≤ 2 * 0 + 1
      by true = omega arith
      by false = omega arith
  length-changes i t (l ∷ lines) =
      rw (length-append, length-map)
      (omega (arith, length-codes m t l, length-changes (suc i) (after m t l) lines))

  -- ---- a change is listed exactly where its line has it

  module _ (c : ℕ) where
    in_line : (i k : ℕ) (cs : List ℕ) → Told k c (map (λ d. (i, d)) cs) → (k ≡ i) × Memᴰ c cs
    in_line i k [] h = absurd (Memᴰ.not-nil h)
    in_line i k (d ∷ cs) h =
        ⊎_elim (λ e. (ap (λ p. p.0) e, Memᴰ.head (ap (λ p. p.1) e))) (λ r. let (e, x) = in_line i k cs r in (e, Memᴰ.tail x))
        (Memᴰ.cases_cons h)

    line_in : (i : ℕ) {cs : List ℕ} → Memᴰ c cs → Told i c (map (λ d. (i, d)) cs)
    line_in i (Memᴰ.head e) = Memᴰ.head (ap (λ d. (i, d)) e)
    line_in i (Memᴰ.tail h) = Memᴰ.tail (line_in i h)

    -- line n has the change
    abbrev Has : ℕ → List JobLine → ℕ → Type 0
    Has t lines n = Memᴰ c (codes m (running m t (take n lines)) (get_or lines n no_line))

    listed-out : (i t : ℕ) (lines : List JobLine) (k : ℕ) → Told k c (changes m i t lines)
        → (n : ℕ) × (k ≡ i + n) × (n < length lines) × Has t lines n
    unfolding changes running
    listed-out i t [] k h = absurd (Memᴰ.not-nil h)
    listed-out i t (l ∷ lines) k h =
        ⊎_elim
        (λ a. let (e, x) = in_line i k (codes m t l) a in (0, omega (arith, e), omega arith, x))
        (λ b. let (n, e, u, x) = listed-out (suc i) (after m t l) lines k b in (suc n, omega (arith, e), omega (arith, u), x))
        (Memᴰ.append_cases (map (λ d. (i, d)) (codes m t l)) h)

    listed_in : (i t : ℕ) (lines : List JobLine) (n : ℕ) → n < length lines → Has t lines n → Told (i + n) c (changes m i t lines)
    unfolding changes running
    listed_in i t [] n u h = absurd (omega arith)
    listed_in i t (l ∷ lines) zero u h =
        let e : i + 0 ≡ i = omega arith in
        Memᴰ.cast (ap (λ k. (k, c)) e) (Memᴰ.append_left _ (line_in i h))
    listed_in i t (l ∷ lines) (suc n) u h =
        let e : i + suc n ≡ suc i + n = omega arith in
        Memᴰ.cast (ap (λ k. (k, c)) e) (Memᴰ.append_right (map (λ d. (i, d)) (codes m t l))
        (listed_in (suc i) (after m t l) lines n (omega arith) h))

  -- change c is listed for line n exactly where the line, after the lines before it, has it
  pub changes_iff : (lines : List JobLine) (n c : ℕ)
      → Told n c (changes m 0 0 lines) ↔ ((n < length lines) × Memᴰ c (codes m (running m 0 (take n lines)) (get_or lines n no_line)))
  changes_iff lines n c = (
    λ h. let (k, e, u, x) = listed-out c 0 0 lines n h in let z : n ≡ k = omega (arith, e) in rw z (u, x),
    λ (u, x). Memᴰ.cast (ap (λ k. (k, c)) (sym (zero-add n))) (listed_in c 0 0 lines n u x),
  )

  -- ---- they go by line, then by code

  -- each is of a line among the lines, and its code is a byte
  pub changes_range : (i t : ℕ) (lines : List JobLine)
      → All (λ c. (i ≤ c.0) × (c.0 < i + length lines) × (1 ≤ c.1) × (c.1 ≤ 4)) (changes m i t lines)
  unfolding changes
  changes_range i t [] = none
  changes_range i t (l ∷ lines) =
      all_append
      (all-mapped (λ d. (i, d)) (codes_all m t l (λ _. omega arith) (λ _. omega arith) (λ _. omega arith) (λ _. omega arith)))
      (all_map (λ c h. omega (arith, h)) (changes_range (suc i) (after m t l) lines))

  pub changes_rising : (i t : ℕ) (lines : List JobLine) → Rising (map place (changes m i t lines))
  unfolding changes
  changes_rising i t [] = end
  changes_rising i t (l ∷ lines) =
      let cs = codes m t l in
      rw (map-append, map-map)
      (rising_append (256 * suc i) (rising_add (256 * i) (codes_rising m t l))
      (all-mapped (λ d. 256 * i + d) (codes_all m t l (λ _. omega arith) (λ _. omega arith) (λ _. omega arith) (λ _. omega arith)))
      (changes_rising (suc i) (after m t l) lines)
      (all-mapped place (all_map (λ c h. omega (arith, h)) (changes_range (suc i) (after m t l) lines))))
