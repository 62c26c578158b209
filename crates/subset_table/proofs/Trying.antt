-- The largest score at the tips of a set, which are tried one by one.
use Prim.Native.Nat.{ℕ, zero, suc, ◌-◌, ◌^◌, ◌≤◌, ◌<◌, max}
use native.Mathlib.Omega.{arith}
use mathlib.Core.Path.{◌≡◌, refl, sym, ◌∙◌}
use mathlib.Core.Logic.{⊎_elim}
use mathlib.Core.Bool.{cond}
use mathlib.Core.List.{List}
use lib.Dec.{T}
use Rattle.model.specs.Count.{largest}
use Rattle.model.specs.Plan.{has, Domain}
use Rattle.model.specs.Interval.{low}
use Rattle.model.proofs.Tests.{le_or_lt, true_T, cond_case}
use Rattle.model.proofs.Largest.{largest_cong, largest_zero}
use Rattle.model.proofs.Run.{low-tip}
use Rattle.model.proofs.Sets.{has-below, has_some}
use Rattle.subset_rules.specs.Exact.{most_named}
use Rattle.subset_rules.proofs.Drop.{drop_own, drop_other, drop_lt}
use Rattle.subset_table.specs.Scores.{taking_by, at_tip, ReadyBy}

-- the largest is the one at c or the largest of the others, for which g is 0 at c
largest-apart : (f g : ℕ → ℕ) (c m : ℕ) → c < m → g c ≡ 0 → ((t : ℕ) → (t ≡ c → ⊥) → f t ≡ g t) → largest f m ≡ max (f c) (largest g m)
unfolding largest
largest-apart f g c zero l z same = absurd (omega arith)
largest-apart f g c (suc m) l z same =
    ⊎_elim
    (λ p.
    let q : m ≡ c = omega arith in
    rw q (omega (arith, z, largest_cong f g c (λ t b. same t (λ e. omega arith)))))
    (λ p. omega (arith, same m (λ e. omega arith), largest-apart f g c m p z same))
    (le_or_lt m c)

module _ (price : ℕ) (counts scores : List ℕ) (u : ℕ) where
  -- the score of u at a tip of the rest, and 0 at any other
  abbrev pub left_at : ℕ → ℕ → ℕ
  left_at rest t = cond (has rest t) (taking_by price counts scores u t) 0

  -- the best so far and the largest at the tips of the rest
  pub record Trying (rest best : ℕ) : Type 0 where
    pub below : rest ≤ u
    pub own : (t : ℕ) → T (has rest t) → T (has u t)
    pub most : (m : ℕ) → u < 2 ^ m → max best (largest (left_at rest) m) ≡ largest (at_tip price counts scores u) m

  pub trying_first : Trying u 0
  trying_first = record { below = omega arith; own = λ t h. h; most = λ m b. omega arith }

  module _ {rest best : ℕ} (r : Trying rest best) where
    -- the tip is tried
    pub trying_more : (t x : ℕ) → T (has rest t) → x ≡ taking_by price counts scores u t → Trying (rest - 2 ^ t) (max best x)
    trying_more t x h e = record {
      below = omega (arith, drop_lt rest t h, r.below);
      own = λ v g. r.own v (rw (drop_other rest t v h (other v g)) at g);
      most = λ m b.
          let l : t < m = has-below m rest t (omega (arith, r.below)) h in
          let apart = largest-apart (left_at rest) (left_at (rest - 2 ^ t)) t m l (rw (drop_own rest t h))
          (λ v n. rw (drop_other rest t v h n)) in
          let here : left_at rest t ≡ x = rw (true_T (has rest t) h) (sym e) in
          omega (arith, apart, here, r.most m b);
    }
      where
        other : (v : ℕ) → T (has (rest - 2 ^ t) v) → v ≡ t → ⊥
        other v g q = rw (q, drop_own rest t h) at g

    -- no tip is left
    pub trying_all : rest ≡ 0 → (m : ℕ) → u < 2 ^ m → best ≡ largest (at_tip price counts scores u) m
    trying_all z m b =
        let none : largest (left_at rest) m ≡ 0 =
        largest_cong (left_at rest) (λ t. 0) m (λ t _.
        cond_case (λ x. x ≡ 0) (has rest t) (λ h. absurd (omega (arith, has_some rest t h))) (λ _. refl))
        ∙ largest_zero m in
        omega (arith, none, r.most m b)

-- the lowest tip of the rest
pub trying_lowest : {price : ℕ} {counts scores : List ℕ} {u : ℕ} → ReadyBy price counts scores u → (rest : ℕ) → 0 < rest → rest ≤ u
    → (low rest < most_named) × T (has rest (low rest))
trying_lowest (m, r) rest some l =
    let d : Domain m rest = record { some = some; below = omega (arith, r.inside) } in
    let h : T (has rest (low rest)) = low-tip (omega (arith, r.counted.narrow)) d in
    (omega (arith, has-below m rest (low rest) d.below h, r.counted.narrow), h)
