-- The choice among the tips of the largest count is the choice by the count.
use Prim.Native.Nat.{ℕ, zero, suc, ◌≤◌, ◌<◌}
use native.Mathlib.Omega.{arith}
use native.Mathlib.Nat.{pos_of_ne-zero}
use mathlib.Core.Path.{◌≡◌, refl, ap, sym, ◌∙◌}
use mathlib.Core.Logic.{⊎_elim}
use mathlib.Core.Bool.{Bool, cond, ◌&&◌}
use lib.Dec.{T, ltb, eqb, eqb→eq, lt→ltb}
use Rattle.model.specs.Limits.{most_tips}
use Rattle.model.specs.Count.{largest, lowest_at}
use Rattle.model.specs.Plan.{has}
use Rattle.model.specs.CommonTip.{set_of}
use Rattle.model.specs.Choice.{Mounted, bare, tip, choice}
use Rattle.model.specs.Interval.{low}
use Rattle.model.proofs.Tests.{le_or_lt, eqb_T, and_right, and_in}
use Rattle.model.proofs.Choice.{choice-set}
use Rattle.model.proofs.Largest.{largest_ge, lowest_lt, lowest_attains, lowest-first}
use Rattle.model.proofs.Run.{low_le, low-tip}
use Rattle.model.proofs.Sets.{has_some, set_of_lt, has-set_of}
use Rattle.head.specs.OnHead.{chosen}

-- the tips below m whose count is n, and not 0
abbrev busy_tips : (ℕ → ℕ) → ℕ → ℕ → ℕ
busy_tips f n m = set_of (λ t. ltb 0 (f t) && eqb (f t) n) m

module _ (f : ℕ → ℕ) (m n : ℕ) (some : n ≡ 0 → ⊥) (most : n ≡ largest f m) (narrow : m ≤ most_tips) where
  abbrev busy : ℕ → Bool
  busy t = ltb 0 (f t) && eqb (f t) n

  lowest-busiest : low (busy_tips f n m) ≡ lowest_at f m
  unfolding largest
  lowest-busiest = by m refl
    where
      by : (k : ℕ) → m ≡ k → low (busy_tips f n m) ≡ lowest_at f m
      by zero z = absurd (some (most ∙ ap (largest f) z))
      by (suc k) z =
          let tips = busy_tips f n m in
          let u = lowest_at f m in
          let l : u < m = lowest_lt f m (omega arith) in
          let is : f u ≡ n = omega (arith, lowest_attains f m, largest_ge f m u l) in
          let b = and_in (ltb 0 (f u)) (eqb (f u) n) (lt→ltb 0 (f u) (rw is (pos_of_ne-zero some))) (eqb_T (f u) n is) in
          let own : T (has tips u) = rw (has-set_of busy m u) (and_in (ltb u m) (busy u) (lt→ltb u m l) b) in
          let least = low-tip {m = m} narrow (record { some = has_some tips u own; below = set_of_lt busy m }) in
          let t = low tips in
          let b' = and_right (ltb t m) (busy t) (rw (has-set_of busy m t) at least) in
          let is' = eqb→eq (f t) n (and_right (ltb 0 (f t)) (eqb (f t) n) b') in
          ⊎_elim (λ q. omega (arith, low_le tips u own)) (λ q. absurd (omega (arith, lowest-first f m t q, is', is))) (le_or_lt u t)

  lowest : low (busy_tips f n m) ≡ choice bare f m
  unfolding choice
  lowest = lowest-busiest

  by : (mounted : Mounted) → chosen mounted (busy_tips f n m) ≡ choice mounted f m
  by bare = lowest
  by (tip t) = ap (cond (has (busy_tips f n m) t) t) lowest ∙ rw most (sym (choice-set f m t (omega arith)))

pub chosen-busiest : (mounted : Mounted) (f : ℕ → ℕ) (m n : ℕ) → (n ≡ 0 → ⊥) → n ≡ largest f m → m ≤ most_tips
    → chosen mounted (set_of (λ t. ltb 0 (f t) && eqb (f t) n) m) ≡ choice mounted f m
chosen-busiest mounted f m n some most narrow = by f m n some most narrow mounted
