-- Common tip: the margin, the set W, and when some valid plan is within k.
use Prim.Native.Nat.{ℕ, zero, suc, ◌+◌, ◌-◌, ◌^◌, ◌≤◌, ◌<◌}
use native.Mathlib.Omega.{arith}
use mathlib.Core.Path.{◌≡◌, refl, sym, ap, ◌∙◌}
use mathlib.Core.Logic.{◌↔◌}
use mathlib.Core.Bool.{Bool, true, not, cond, ◌&&◌}
use mathlib.Core.List.{List, map}
use lib.ListN.{length}
use lib.Dec.{T, eqb, ltb, eqb→eq, ltb→lt, lt→ltb, leb-suc-zero}
use borrow.Author.Tests.{lt-ltb, le-ltb}
use lib.IntN.{pos, negsuc, sub_ℕ, neg_ℤ, ◌+ℤ◌, ◌-ℤ◌, +ℤ_assoc, +ℤ_comm}
use Rattle.model.specs.Count.{All, lowest_at}
use Rattle.model.specs.Plan.{has, occ, uses, Domain, Valid, prefer}
use Rattle.model.specs.Choice.{bare}
use Rattle.model.specs.Greedy.{busiest}
use Rattle.model.specs.CommonTip.{top, W, margin, most_used, Within}
use Rattle.model.specs.Before.{LeastOff}
use Rattle.model.proofs.Tests.{eqb_T, and_left, and_right, and_in, one_le, one_T}
use Rattle.model.proofs.Lists.{all-select}
use Rattle.model.proofs.Mix.{count_mix}
use Rattle.model.proofs.Pairs.{uses-replicate}
use Rattle.model.proofs.Largest.{largest_ge, largest_mono, lowest_attains}
use Rattle.model.proofs.Sets.{some_tip, set_of_lt, has-set_of}
use Rattle.model.proofs.Occ.{occ-below, top_le, busiest_lt}
use Rattle.model.proofs.Valid.{valid_length, valid_map, uses_le, prefer_own, prefer_mix}

-- ---- the margin

sub_add : (t n k : ℕ) → pos t -ℤ pos n +ℤ pos k ≡ sub_ℕ (t + k) n
sub_add t n k =
    +ℤ_assoc (pos t) (neg_ℤ (pos n)) (pos k) ∙ ap (λ z. pos t +ℤ z) (+ℤ_comm (neg_ℤ (pos n)) (pos k))
    ∙ sym (+ℤ_assoc (pos t) (pos k) (neg_ℤ (pos n))) ∙ minus n
  where
    minus : (n : ℕ) → pos (t + k) +ℤ neg_ℤ (pos n) ≡ sub_ℕ (t + k) n
    minus zero = rw (leb-suc-zero (t + k)) (ap pos (omega arith))
    minus (suc n) = refl

module _ (m : ℕ) (lines : List ℕ) (k : ℕ) where
  -- from zero on, and below zero
  pub margin_pos : length lines ≤ top m lines + k → margin m lines k ≡ pos (top m lines + k - length lines)
  unfolding margin
  margin_pos h = rw (sub_add (top m lines) (length lines) k, le-ltb (top m lines + k) (length lines))

  pub margin_neg : top m lines + k < length lines → margin m lines k ≡ negsuc (length lines - suc (top m lines + k))
  unfolding margin
  margin_neg h = rw (sub_add (top m lines) (length lines) k, lt-ltb (top m lines + k) (length lines))

-- ---- the tips of W

pub W_iff : (m : ℕ) (lines : List ℕ) (t : ℕ) → T (has (W m lines) t) ↔ ((t < m) × (0 < occ lines t) × (occ lines t ≡ top m lines))
unfolding W
W_iff m lines t =
    let f : ℕ → Bool = λ u. ltb 0 (occ lines u) && eqb (occ lines u) (top m lines) in
    rw (has-set_of f m t) (
      λ h. search (and_left, and_right, ltb→lt, eqb→eq),
      λ (a, b, e). let same : T (eqb (occ lines t) (top m lines)) = eqb_T (occ lines t) (top m lines) e in search (and_in, lt→ltb),
    )

pub W_lt : (m : ℕ) (lines : List ℕ) → W m lines < 2 ^ m
unfolding W
W_lt m lines = set_of_lt _ m

-- a tip is in W exactly when some line allows it, and as many lines as top do
pub W-tips : {m : ℕ} {lines : List ℕ} → All (Domain m) lines → (t : ℕ)
    → T (has (W m lines) t) ↔ ((0 < occ lines t) × (occ lines t ≡ top m lines))
W-tips {m} {lines} ds t = (
  λ h. let (b, p, e) = (W_iff m lines t).0 h in (p, e),
  λ (p, e). (W_iff m lines t).1 (occ-below ds t p, p, e),
)

-- ---- a plan that prefers a tip

-- the lowest tip of a set
pub low_tip : ℕ → ℕ → ℕ
low_tip m s = lowest_at (λ t. cond (has s t) 1 0) m

has_low_tip : {m s : ℕ} → Domain m s → T (has s (low_tip m s))
unfolding low_tip
has_low_tip {m} {s} d =
    let (t, h, l) = some_tip d in
    let f : ℕ → ℕ = λ u. cond (has s u) 1 0 in
    one_T (has s (lowest_at f m)) (omega (arith, one_le true (has s t) (λ _. h), largest_ge f m t l, lowest_attains f m))

-- the lines that allow w on it, and any other on its lowest tip
unfoldable pub gather : ℕ → ℕ → List ℕ → List ℕ
gather m w lines = map (prefer w (low_tip m)) lines

module _ {m : ℕ} {lines : List ℕ} (ds : All (Domain m) lines) (w : ℕ) where
  pub gather_valid : Valid lines (gather m w lines)
  unfolding gather
  gather_valid = valid_map (prefer w (low_tip m)) (prefer_own w (low_tip m) lines (all-select (λ s. not (has s w)) (λ s _. has_low_tip) ds))

  pub gather-uses : occ lines w ≤ uses (gather m w lines) w
  unfolding gather uses
  gather-uses = omega (arith, uses-replicate (occ lines w) w, count_mix (eqb w) (prefer_mix w (low_tip m) lines))

-- no plan has more lines on one tip than allow it
pub used_le : (m : ℕ) {lines plan : List ℕ} → Valid lines plan → most_used m plan ≤ top m lines
unfolding top most_used
used_le m {lines} {plan} v = largest_mono (uses plan) (occ lines) m (λ t _. uses_le v t)

module _ {m : ℕ} {lines : List ℕ} (some : 0 < m) (ds : All (Domain m) lines) where
  -- a plan that gathers the lines on a busiest tip has as many on it as top
  gathered : top m lines ≤ most_used m (gather m (busiest bare lines m) lines)
  unfolding most_used
  gathered =
      let w = busiest bare lines m in
      omega (arith, top_le bare m lines, gather-uses ds w, largest_ge (uses (gather m w lines)) m w (busiest_lt bare m lines some))

  -- THE LEAST NUMBER OF LINES OFF: n - top
  pub least-off : LeastOff m lines (length lines - top m lines)
  least-off =
      let w = busiest bare lines m in
      let v = gather_valid ds w in
      record {
        reached = (gather m w lines, v, omega (arith, valid_length v, gathered, used_le m v));
        least = λ v. omega (arith, valid_length v, used_le m v);
      }

  -- some valid plan is within k exactly when the lines are at most k more than top
  pub within_iff : (k : ℕ) → ((plan : List ℕ) × Valid lines plan × Within m k plan) ↔ (length lines ≤ top m lines + k)
  within_iff k = (
    λ (plan, v, h). omega (arith, least-off.least v),
    λ h. let (plan, v, e) = least-off.reached in (plan, v, omega (arith, e)),
  )
