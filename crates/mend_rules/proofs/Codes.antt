-- The changes made to one line: each is listed exactly where it was made.
use Prim.Native.Nat.{ℕ, ◌+◌, ◌^◌, ◌≤◌, ◌<◌, max}
use native.Mathlib.Omega.{arith}
use native.Mathlib.Nat.{mod-lt, mod-eq_of_lt}
use mathlib.Core.Path.{◌≡◌, refl, sym, subst}
use mathlib.Core.Logic.{◌↔◌, ⊎_elim}
use mathlib.Core.Bool.{Bool, true, false, not, cond, ◌&&◌}
use mathlib.Core.List.{List, [], Memᴰ}
use lib.ListN.{length}
use lib.Dec.{T, T_not, not_T, eqb, ltb→lt, lt→ltb, nltb→le, eqb→eq, eqb_refl}
use lib.Pow.{pow_pos}
use borrow.Author.Tests.{lt-ltb, le-ltb, ne_eqb}
use Rattle.model.specs.Count.{All, none, more}
use Rattle.model.specs.Plan.{in_rack}
use Rattle.model.proofs.Tests.{le_or_lt, and_left, and_right, and_in}
use Rattle.model.specs.Limits.{most_placements}
use Rattle.job.specs.Job.{JobLine}
use Rattle.mend_rules.specs.Mending.{mended_line, left_empty, over, after, noted, is_cleared, is_emptied, is_raised, is_dropped, codes}
use Rattle.mend_rules.specs.Rules.{Rising, end, first}
use Rattle.mend_rules.proofs.Lines.{GoodLine}
use Rattle.mend_rules.proofs.Kept.{Fate, late, bare, passing, fitting, fate, good_fate}

-- ---- a list of elements, each behind its test

module _ {A : Type 0} where
  -- the element is there where its test passes
  pub noted_here : (b : Bool) (x : A) (xs : List A) → T b → Memᴰ x (noted b x xs)
  noted_here true x xs t = Memᴰ.head refl
  noted_here false x xs t = absurd t

  pub noted_later : (b : Bool) (x y : A) (xs : List A) → Memᴰ y xs → Memᴰ y (noted b x xs)
  noted_later true x y xs h = Memᴰ.tail h
  noted_later false x y xs h = h

  -- what holds of the element where its test passes, and of the rest, holds of all
  pub noted-all : {P : A → Type 0} (b : Bool) (x : A) {xs : List A} → (T b → P x) → All P xs → All P (noted b x xs)
  noted-all true x p ps = more (p tt) ps
  noted-all false x p ps = ps

  -- what holds of all holds of what is there
  pub all_mem : {P : A → Type 0} {y : A} {xs : List A} → All P xs → Memᴰ y xs → P y
  all_mem none h = elim h [ ]
  all_mem {P} (more p ps) (Memᴰ.head e) = subst P (sym e) p
  all_mem (more p ps) (Memᴰ.tail h) = all_mem ps h

-- two numbers that differ are not equal
unlike : {A Q : Type 0} (a b : ℕ) → T (not (eqb a b)) → A → a ≡ b → Q
unlike a b n x e = absurd (T_not (eqb a b) n (rw e (eqb_refl b)))

-- ---- the codes of a line

module _ (m t : ℕ) (l : JobLine) where
  abbrev cleared : Bool
  cleared = is_cleared m t l.tips

  abbrev emptied : Bool
  emptied = is_emptied m t l

  abbrev raised : Bool
  raised = is_raised m t l

  abbrev dropped : Bool
  dropped = is_dropped m t l

  -- what holds of each code where its test passes holds of all codes
  pub codes_all : {P : ℕ → Type 0} → (T cleared → P 1) → (T emptied → P 2) → (T raised → P 3) → (T dropped → P 4) → All P (codes m t l)
  unfolding codes
  codes_all p q r s = noted-all cleared 1 p (noted-all emptied 2 q (noted-all raised 3 r (noted-all dropped 4 s none)))

  -- a code that is listed passed its test
  code_out : (k : ℕ) {Q : Type 0} → (T cleared → 1 ≡ k → Q) → (T emptied → 2 ≡ k → Q) → (T raised → 3 ≡ k → Q) → (T dropped → 4 ≡ k → Q)
      → Memᴰ k (codes m t l) → Q
  code_out k {Q} p q r s h = all_mem (codes_all {P = λ c. c ≡ k → Q} p q r s) h refl

  one_iff : Memᴰ 1 (codes m t l) ↔ T cleared
  unfolding codes
  one_iff = (code_out 1 (λ x _. x) (unlike 2 1 tt) (unlike 3 1 tt) (unlike 4 1 tt), noted_here cleared 1 _)

  two_iff : Memᴰ 2 (codes m t l) ↔ T emptied
  unfolding codes
  two_iff = (code_out 2 (unlike 1 2 tt) (λ x _. x) (unlike 3 2 tt) (unlike 4 2 tt), λ x. noted_later cleared 1 2 _ (noted_here emptied 2 _ x))

  three_iff : Memᴰ 3 (codes m t l) ↔ T raised
  unfolding codes
  three_iff = (
    code_out 3 (unlike 1 3 tt) (unlike 2 3 tt) (λ x _. x) (unlike 4 3 tt),
    λ x. noted_later cleared 1 3 _ (noted_later emptied 2 3 _ (noted_here raised 3 _ x)),
  )

  four_iff : Memᴰ 4 (codes m t l) ↔ T dropped
  unfolding codes
  four_iff = (
    code_out 4 (unlike 1 4 tt) (unlike 2 4 tt) (unlike 3 4 tt) (λ x _. x),
    λ x. noted_later cleared 1 4 _ (noted_later emptied 2 4 _ (noted_later raised 3 4 _ (noted_here dropped 4 _ x))),
  )

  -- ---- what the tests say

  still : (t ≤ most_placements) ↔ T (not (over t))
  still = (λ k. not_T (over t) (λ x. omega (arith, ltb→lt most_placements t x)), nltb→le most_placements t)

  cleared_iff : T cleared ↔ ((t ≤ most_placements) × ((mended_line m l).tips ≡ l.tips → ⊥))
  unfolding mended_line in_rack
  cleared_iff =
      let s = l.tips in
      let a = not (over t) in
      let b = in_rack m s in (
        λ x. (still.1 (and_left a (not b) x), λ e. T_not b (and_right a (not b) x) (lt→ltb s (2 ^ m) (omega (arith, e, mod-lt s (pow_pos m))))),
        λ (k, n). and_in a (not b) (still.0 k) (not_T b (λ x. n (mod-eq_of_lt (ltb→lt s (2 ^ m) x)))),
      )

  emptied_iff : T emptied ↔ ((t ≤ most_placements) × ((mended_line m l).tips ≡ 0))
  unfolding left_empty
  emptied_iff =
      let a = not (over t) in
      let b = left_empty m l in
      (λ x. (still.1 (and_left a b x), eqb→eq _ _ (and_right a b x)), λ (k, e). and_in a b (still.0 k) (rw e tt))

  raised_iff : T raised ↔ ((t ≤ most_placements) × ((mended_line m l).tips ≡ 0 → ⊥) × ((mended_line m l).quantity ≡ l.quantity → ⊥))
  unfolding mended_line left_empty
  raised_iff =
      let a = not (over t) in
      let b = left_empty m l in
      let c = eqb l.quantity 0 in (
        λ x.
            let y = and_left (a && not b) c x in
            let z = eqb→eq l.quantity 0 (and_right (a && not b) c x) in
            (still.1 (and_left a (not b) y), λ e. T_not b (and_right a (not b) y) (rw e tt), λ e. omega arith),
        λ (k, n, r). and_in (a && not b) c (and_in a (not b) (still.0 k) (not_T b (λ x. n (eqb→eq _ _ x)))) (unraised l.quantity r),
      )
    where
      unraised : (q : ℕ) → (max 1 q ≡ q → ⊥) → T (eqb q 0)
      unraised q r = ⊎_elim (λ h. let e : q ≡ 0 = omega arith in rw e tt) (λ h. absurd (r (omega arith))) (le_or_lt q 0)

  -- each change is listed exactly where it was made
  pub code_cleared : Memᴰ 1 (codes m t l) ↔ ((t ≤ most_placements) × ((mended_line m l).tips ≡ l.tips → ⊥))
  code_cleared = (λ h. cleared_iff.0 (one_iff.0 h), λ h. one_iff.1 (cleared_iff.1 h))

  pub code_emptied : Memᴰ 2 (codes m t l) ↔ ((t ≤ most_placements) × ((mended_line m l).tips ≡ 0))
  code_emptied = (λ h. emptied_iff.0 (two_iff.0 h), λ h. two_iff.1 (emptied_iff.1 h))

  pub code_raised : Memᴰ 3 (codes m t l) ↔ ((t ≤ most_placements) × ((mended_line m l).tips ≡ 0 → ⊥) × ((mended_line m l).quantity ≡ l.quantity → ⊥))
  code_raised = (λ h. raised_iff.0 (three_iff.0 h), λ h. three_iff.1 (raised_iff.1 h))

  pub code_dropped : Memᴰ 4 (codes m t l) ↔ (most_placements < after m t l)
  code_dropped = (λ h. ltb→lt _ _ (four_iff.0 h), λ h. four_iff.1 (lt→ltb _ _ h))

  -- a good line that fits has no change
  pub codes-none : GoodLine m l → t + l.quantity ≤ most_placements → codes m t l ≡ []
  unfolding codes in_rack
  codes-none g h =
      let (e, a, _) = good_fate m t l g h in
      let z : l.quantity ≡ 0 → ⊥ = λ z. omega (arith, g.some) in
      simp (
        le-ltb most_placements t (omega arith),
        lt-ltb l.tips (2 ^ m) g.domain.below,
        e,
        a,
        ne_eqb l.quantity 0 z,
        le-ltb most_placements (t + l.quantity) h,
      )

  -- the codes rise
  pub codes_rising : Rising (codes m t l)
  unfolding codes
  codes_rising = by cleared emptied raised dropped
    where
      step : (b : Bool) (x : ℕ) {xs : List ℕ} → All (λ y. x < y) xs → Rising xs → Rising (noted b x xs)
      step true x h r = first h r
      step false x h r = r

      by : (a b c d : Bool) → Rising (noted a 1 (noted b 2 (noted c 3 (noted d 4 []))))
      by a b c d =
          let low : (x : ℕ) → x < 4 → All (λ y. x < y) (noted d 4 []) = λ x h. noted-all d 4 (λ _. h) none in
          let mid : (x : ℕ) → x < 3 → All (λ y. x < y) (noted c 3 (noted d 4 [])) = λ x h. noted-all c 3 (λ _. h) (low x (omega arith)) in
          step a 1 (noted-all b 2 (λ _. omega arith) (mid 1 (omega arith)))
          (step b 2 (mid 2 (omega arith)) (step c 3 (low 3 (omega arith)) (step d 4 none end)))

  -- at most two, and a third only for the line with which the total passes
  pub length-codes : length (codes m t l) + cond (over t) 1 0 ≤ 2 + cond (over (after m t l)) 1 0
  unfolding codes
  length-codes = by (fate m t l)
    where
      some : (x : ℕ) (b c d : Bool) → length (noted b 1 (noted c x (noted d 4 []))) ≤ 2 + cond d 1 0
      some x true true true = omega arith
      some x true true false = omega arith
      some x true false true = omega arith
      some x true false false = omega arith
      some x false true true = omega arith
      some x false true false = omega arith
      some x false false true = omega arith
      some x false false false = omega arith

      by : Fate m t l → length (codes m t l) + cond (over t) 1 0 ≤ 2 + cond (over (after m t l)) 1 0
      by (late k a _) = simp (a, lt-ltb most_placements t k) (omega arith)
      by (bare k e a _) = simp (a, le-ltb most_placements t k, e) (omega (arith, some 2 (not (in_rack m l.tips)) true false))
      by (passing k e p a _) = simp (a, le-ltb most_placements t k, e)
          (omega (arith, some 3 (not (in_rack m l.tips)) (eqb l.quantity 0) (over (t + (mended_line m l).quantity))))
      by (fitting k e p a _) = simp (a, le-ltb most_placements t k, e)
          (omega (arith, some 3 (not (in_rack m l.tips)) (eqb l.quantity 0) (over (t + (mended_line m l).quantity))))
