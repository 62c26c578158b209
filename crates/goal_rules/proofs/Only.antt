-- The set that has one tip alone: a run, which lies within the intervals that have the tip.
use Prim.Native.Nat.{ℕ, zero, suc, ◌/◌, ◌^◌, ◌≤◌, ◌<◌}
use native.Mathlib.Omega.{arith}
use mathlib.Core.Path.{◌≡◌, refl, ap}
use mathlib.Core.Bool.{Bool}
use lib.Dec.{T}
use lib.Pow.{pow_pos, pow-lt}
use Rattle.model.specs.Plan.{has, Domain}
use Rattle.model.specs.Interval.{low, high, Line}
use Rattle.model.proofs.Sets.{has-suc, has-digit, digit-has, has_some}
use Rattle.model.proofs.Run.{low-tip, high-tip}
use Rattle.goal_rules.specs.Goal.{only}

pub has-only : (t : ℕ) → T (has (only t) t)
unfolding only
has-only zero = digit-has 1 0 refl
has-only (suc t) =
    let e : 2 ^ suc t / 2 ≡ 2 ^ t = omega arith in
    rw (has-suc, e) (has-only t)

pub only-has : (t c : ℕ) → T (has (only t) c) → c ≡ t
unfolding only
only-has zero zero h = refl
only-has zero (suc c) h = absurd (omega (arith, has_some 0 c (rw has-suc at h)))
only-has (suc t) zero h = absurd (omega (arith, has-digit (2 ^ suc t) 0 h))
only-has (suc t) (suc c) h =
    let e : 2 ^ suc t / 2 ≡ 2 ^ t = omega arith in
    ap suc (only-has t c (rw (has-suc, e) at h))

module _ {m t : ℕ} (l : t < m) where
  pub only_domain : Domain m (only t)
  unfolding only
  only_domain = record { some = pow_pos t; below = pow-lt l }

  module _ (narrow : m ≤ 64) where
    pub only-low : low (only t) ≡ t
    only-low = only-has t (low (only t)) (low-tip narrow only_domain)

    pub only_high : high (only t) ≡ t
    only_high = only-has t (high (only t)) (high-tip narrow only_domain).0

    -- a line for each test of tips that t passes
    pub only-line : {ok : ℕ → Bool} → T (ok t) → Line ok m (only t)
    only-line g = record {
      domain = only_domain;
      run = λ c _ p q. let e : c ≡ t = omega (arith, only-low, only_high) in rw e (has-only t);
      fits = λ c h. rw (only-has t c h) g;
    }
