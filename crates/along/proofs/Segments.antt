-- The plan and its changes, segment by segment; and a plan filled up to the end of a segment.
use Prim.Native.Nat.{ℕ, ◌+◌, ◌≤◌, ◌<◌, zero-le}
use native.Mathlib.Omega.{arith}
use mathlib.Core.Path.{◌≡◌, refl, ap, ◌∙◌}
use mathlib.Core.Logic.{⊎_elim}
use mathlib.Core.Bool.{not}
use mathlib.Core.List.{List, [], ◌∷◌, ◌++◌}
use lib.Bits.{bit_and, and_zero_l, and_self}
use lib.Dec.{T, not_T, eqb→eq}
use lib.ListN.{length, drop, replicate}
use Rattle.model.specs.Interval.{low}
use Rattle.model.proofs.Tests.{test, true_T, false_T, cond_case, eqb_T}
use Rattle.along.specs.Along.{parted, common, fewest_from, final, reach, plan_from}
use Rattle.along.proofs.Along.{Tips}

-- ---- segments

pub reach_le : (k : ℕ) (lines : List ℕ) → reach k lines ≤ length lines
unfolding reach
reach_le k [] = zero-le
reach_le k (s ∷ lines) =
    cond_case (λ n. n ≤ length (s ∷ lines)) (parted k s) (λ _. zero-le) (λ _. omega (arith, reach_le (bit_and k s) lines))

module _ (k s : ℕ) where
  common-new : T (parted k s) → common k s ≡ s
  unfolding common
  common-new y = rw (true_T (parted k s) y)

  common_both : T (not (parted k s)) → common k s ≡ bit_and k s
  unfolding common
  common_both n = rw (false_T (parted k s) n)

-- after a segment a new one begins, as after one without common tips
zero_parted : (s : ℕ) → T (parted 0 s)
unfolding parted
zero_parted s = eqb_T (bit_and 0 s) 0 (and_zero_l s)

pub plan_segment : (k : ℕ) (lines : List ℕ)
    → plan_from k lines ≡ replicate (reach k lines) (low (final k lines)) ++ plan_from 0 (drop (reach k lines) lines)
unfolding plan_from reach final
plan_segment k [] = refl
plan_segment k (s ∷ lines) =
    ⊎_elim
    (λ y. rw (common-new k s y, true_T (parted k s) y, common-new 0 s (zero_parted s)))
    (λ n. rw (common_both k s n, false_T (parted k s) n) (ap (λ l. low (final (bit_and k s) lines) ∷ l) (plan_segment (bit_and k s) lines)))
    (test (parted k s))

pub fewest_segment : (k : ℕ) (lines : List ℕ) → fewest_from k lines ≡ fewest_from 0 (drop (reach k lines) lines)
unfolding fewest_from reach
fewest_segment k [] = refl
fewest_segment k (s ∷ lines) =
    ⊎_elim
    (λ y. rw (common-new k s y, true_T (parted k s) y, common-new 0 s (zero_parted s), true_T (parted 0 s) (zero_parted s)))
    (λ n. rw (common_both k s n, false_T (parted k s) n) (omega (arith, fewest_segment (bit_and k s) lines)))
    (test (parted k s))

-- a new segment begins with the tips of its first line
module _ (s : ℕ) (d : Tips s) (lines : List ℕ) where
  self_meets : T (not (parted s s))
  unfolding parted
  self_meets = not_T (parted s s) (λ y. omega (arith, eqb→eq (bit_and s s) 0 y, and_self s, d.some))

  self_common : common s s ≡ s
  self_common = common_both s s self_meets ∙ and_self s

  pub plan_new : plan_from 0 (s ∷ lines) ≡ plan_from s (s ∷ lines)
  unfolding plan_from
  plan_new = rw (common-new 0 s (zero_parted s), self_common)

  pub fewest-new : fewest_from 0 (s ∷ lines) ≡ 1 + fewest_from s (s ∷ lines)
  unfolding fewest_from
  fewest-new =
      rw (common-new 0 s (zero_parted s), self_common, true_T (parted 0 s) (zero_parted s), false_T (parted s s) self_meets) (omega arith)

  pub reach-new : 0 < reach s (s ∷ lines)
  unfolding reach
  reach-new = rw (false_T (parted s s) self_meets) (omega arith)
