-- A set of ranks as a set of tips, place by place.
use Prim.Native.Nat.{ℕ, zero, suc, ◌+◌, ◌*◌, ◌-◌, ◌%◌, ◌^◌, ◌≤◌, ◌<◌}
use native.Mathlib.Numerals.{add-one}
use native.Mathlib.Omega.{arith}
use mathlib.Core.Path.{◌≡◌, refl, ap, sym, ◌∙◌}
use mathlib.Core.Logic.{◌⊎◌, inl, inr, ◌↔◌, ⊎_elim}
use mathlib.Core.Bool.{Bool, true, false, cond}
use mathlib.Core.List.{List}
use lib.Bits.{bit_or, or_zero_r}
use mir.Val.{bool_byte}
use lib.Dec.{T}
use lib.Pow.{pow-lt}
use lib.ListN.{get_or}
use Rattle.model.specs.Limits.{most_tips}
use Rattle.model.specs.Plan.{has, Domain}
use Rattle.model.specs.Interval.{low, high}
use Rattle.model.proofs.Tests.{le_or_lt, test, true_T, false_T, false_not}
use Rattle.model.proofs.Run.{low_le, le_high}
use Rattle.model.proofs.Sets.{empty_has, or_left, or_right, has_or}
use Rattle.tips.proofs.Bits.{has-between}
use Rattle.ranks.specs.Listed.{joined_at, named_by}

-- the set of one tip
one_has : (x t : ℕ) → T (has (2 ^ x) t) ↔ (t ≡ x)
one_has x t =
    let e : 2 ^ (x + 1) - 2 ^ x ≡ 2 ^ x = rw (add-one x) (omega arith) in
    let f = rw e at (has-between x x t (omega arith)) in
    (λ h. let k = f.0 h in omega arith, λ e. f.1 (omega arith, omega arith))

-- the bit of tip x, where a test passes
pub bit_is : (b : Bool) (x : ℕ) → x < most_tips → bool_byte b * 2 ^ x % 2 ^ 64 ≡ cond b (2 ^ x) 0
bit_is true x l = let below : 2 ^ x < 2 ^ 64 = pow-lt {j = 64} (omega arith) in omega arith
bit_is false x l = omega arith

-- a tip of a union
pub or_out : (a b t : ℕ) → T (has (bit_or a b) t) → T (has a t) ⊎ T (has b t)
or_out a b t h = ⊎_elim inl (λ n. inr (rw (has_or a b t, false_T (has a t) n) at h)) (test (has a t))

module _ (list : List ℕ) (s : ℕ) where
  -- for a loop over the places
  pub joined_more : (n : ℕ) → joined_at list s (n + 1) ≡ bit_or (joined_at list s n) (cond (has s n) (2 ^ get_or list n 0) 0)
  unfolding joined_at
  joined_more n = rw (add-one n)

  -- a place that the set does not have adds nothing
  joined_same : (n : ℕ) → (T (has s n) → ⊥) → joined_at list s (suc n) ≡ joined_at list s n
  unfolding joined_at
  joined_same n f = rw (false_not (has s n) f, or_zero_r)

  pub joined_none : (n : ℕ) → n ≤ low s → joined_at list s n ≡ 0
  unfolding joined_at
  joined_none zero h = refl
  joined_none (suc n) h = joined_same n (λ t. omega (arith, low_le s n t)) ∙ joined_none n (omega arith)

  -- no place after the highest
  pub joined_past : Domain most_tips s → (n : ℕ) → high s < n → n ≤ most_tips → joined_at list s n ≡ named_by list s
  unfolding named_by
  joined_past d n h b = let e : n + (most_tips - n) ≡ most_tips = omega arith in sym (rw e at (go (most_tips - n) n h))
    where
      go : (k n : ℕ) → high s < n → joined_at list s (n + k) ≡ joined_at list s n
      go zero n h = let e : n + 0 ≡ n = omega arith in rw e refl
      go (suc k) n h =
          let e : n + suc k ≡ suc (n + k) = omega arith in
          rw e (joined_same (n + k) (λ t. omega (arith, le_high {m = most_tips} (omega arith) d (n + k) t)) ∙ go k n h)

  -- THE TIPS are the numbers at the places that the set has
  pub joined-has : (n t : ℕ) → T (has (joined_at list s n) t) ↔ ((j : ℕ) × (j < n) × T (has s j) × (get_or list j 0 ≡ t))
  unfolding joined_at
  joined-has zero t = (λ h. absurd (rw (empty_has 0 t tt) at h), λ (j, l, h, e). absurd (omega arith))
  joined-has (suc n) t =
      let before = joined-has n t in
      let here : T (has s n) → cond (has s n) (2 ^ get_or list n 0) 0 ≡ 2 ^ get_or list n 0 = λ o. rw (true_T (has s n) o) refl in
      let last = cond (has s n) (2 ^ get_or list n 0) 0 in (
        λ h. ⊎_elim
            (λ k. let (j, l, o, e) = before.0 k in (j, omega arith, o, e))
            (λ k. ⊎_elim
            (λ o. (n, omega arith, o, sym ((one_has (get_or list n 0) t).0 (rw (here o) at k))))
            (λ f. absurd (rw (false_T (has s n) f, empty_has 0 t tt) at k))
            (test (has s n)))
            (or_out (joined_at list s n) last t h),
        λ (j, l, o, e). ⊎_elim
            (λ p. let z : j ≡ n = omega arith in
            let own : T (has s n) = rw z at o in
            let same : t ≡ get_or list n 0 = sym e ∙ ap (λ k. get_or list k 0) z in
            or_right (joined_at list s n) last t (rw (here own) ((one_has (get_or list n 0) t).1 same)))
            (λ p. or_left (joined_at list s n) last t (before.1 (j, p, o, e)))
            (le_or_lt n j),
      )
