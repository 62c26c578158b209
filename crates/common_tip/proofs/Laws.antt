-- Laws of the margin, of the tips common within k, and of pruning by bits.
use Prim.Native.Nat.{ℕ, ◌+◌, ◌-◌, ◌<◌, ◌≤◌, ◌^◌, max}
use native.Mathlib.Omega.{arith}
use mathlib.Core.Path.{◌≡◌, refl, ap, ap₂, sym, ◌∙◌}
use mathlib.Core.Logic.{⊎_elim}
use mathlib.Core.Bool.{true, false, cond, ◌&&◌}
use mathlib.Core.List.{List, [], ◌∷◌, map, map-id, zip_with}
use lib.Dec.{ltb, leb, ltb→lt, lt→ltb, leb→le, le→leb}
use lib.IntN.{ℤ, pos, negsuc}
use lib.ListN.{length}
use lib.Signed.{lt_z}
use mir.Syntax.{w32}
use mir.Val.{SFits}
use borrow.Author.Tests.{lt-ltb, ltb-true}
use Rattle.model.specs.Count.{All}
use Rattle.model.specs.Plan.{occ}
use Rattle.model.specs.CommonTip.{top, margin, narrowed, set_of}
use Rattle.model.proofs.Tests.{le_or_lt, same_test, true_T, and_left, and_right, and_in}
use Rattle.model.proofs.Sets.{covers_and, set_of_cong}
use Rattle.model.proofs.Occ.{top-length}
use Rattle.model.proofs.CommonTip.{margin_pos, margin_neg}
use Rattle.model.specs.Limits.{most_placements}
use Rattle.placements.specs.Repeated.{total, repeated}
use Rattle.placements.specs.Keep.{V, scarce, kept_q, prune_q}
use Rattle.placements.proofs.Repeated.{length-repeated, zip-map}
use Rattle.placements.proofs.Totals.{all_one}
use Rattle.placements.proofs.Scarce.{scarce_iff, scarce-margin, common_lt}
use Rattle.counts.specs.Counts.{count_at, Counts, Countable}
use Rattle.common_tip.specs.Common.{margin_by, least_count, narrow_by, kept_by}
use Rattle.common_tip.proofs.Signed.{margin-fits}

pub margin-by : (m : ℕ) (lines : List ℕ) (k : ℕ) → margin_by (top m lines) (length lines) k ≡ margin m lines k
unfolding margin_by margin
margin-by m lines k = refl

-- no more placements allow a tip than there are
pub top-total : (m : ℕ) {qs lines : List ℕ} → Countable qs lines → (top m (repeated qs lines) ≤ total qs) × (total qs ≤ most_placements)
top-total m {qs} {lines} n = (omega (arith, top-length m (repeated qs lines), length-repeated qs lines n.same), n.few)

-- the margin of placements fits 32 bits with a sign
pub margin_small : (m k : ℕ) {qs lines : List ℕ} → Countable qs lines → k < 2 ^ 16 → SFits w32 (margin m (repeated qs lines) k)
margin_small m k {qs} {lines} n h =
    let (t, few) = top-total m n in
    let size = length-repeated qs lines n.same in
    rw (← (margin-by m (repeated qs lines) k)) (margin-fits (top m (repeated qs lines)) (length (repeated qs lines)) k (omega arith) (omega arith) h)

-- a count is at least the least count of a common tip exactly when it is not 0 and all but k are counted
least_test : (n k c : ℕ) → leb (least_count n k) c ≡ (ltb 0 c && leb n (c + k))
unfolding least_count
least_test n k c =
    same_test (leb (max 1 (n - k)) c) (ltb 0 c && leb n (c + k))
    (λ t. let h = leb→le (max 1 (n - k)) c t in and_in (ltb 0 c) (leb n (c + k)) (lt→ltb 0 c (omega arith)) (le→leb n (c + k) (omega arith)))
    (λ t.
    let a = ltb→lt 0 c (and_left (ltb 0 c) (leb n (c + k)) t) in
    let b = leb→le n (c + k) (and_right (ltb 0 c) (leb n (c + k)) t) in
    le→leb (max 1 (n - k)) c (omega arith))

-- the tips whose count is at least that are the common ones
pub least_common : (m : ℕ) {lines planes : List ℕ} (k : ℕ) {least : ℕ} → Counts lines planes → least ≡ least_count (length lines) k
    → set_of (λ t. leb least (count_at planes t)) m ≡ V m lines k
unfolding V
least_common m {lines} k c e = set_of_cong _ _ m (λ t _. rw (c.counted t, e) (least_test (length lines) k (occ lines t)))

-- s & v == v decides whether s has all of v
pub narrow-by : (m v s : ℕ) → v < 2 ^ m → narrow_by v s ≡ narrowed m v s
unfolding narrow_by narrowed
narrow-by m v s h = rw (covers_and m s v h)

-- THE TEST OF THE MARGIN, with its sign: it is below the quantity
pub scarce-by : (m : ℕ) (lines : List ℕ) (k q : ℕ) → lt_z (margin m lines k) (pos q) ≡ scarce m lines k q
scarce-by m lines k q = ⊎_elim plenty short (le_or_lt (length lines) (top m lines + k))
  where
    plenty : length lines ≤ top m lines + k → lt_z (margin m lines k) (pos q) ≡ scarce m lines k q
    plenty h = ap (λ z. lt_z z (pos q)) (margin_pos m lines k h) ∙ sym (scarce-margin m lines k h q)

    short : top m lines + k < length lines → lt_z (margin m lines k) (pos q) ≡ scarce m lines k q
    short h = ap (λ z. lt_z z (pos q)) (margin_neg m lines k h) ∙ sym (true_T (scarce m lines k q) ((scarce_iff m lines k q).1 (omega arith)))

zip_cong : (f g : ℕ → ℕ → ℕ) → ((q s : ℕ) → f q s ≡ g q s) → (qs sets : List ℕ) → zip_with f qs sets ≡ zip_with g qs sets
unfolding zip_with
zip_cong f g h [] sets = refl
zip_cong f g h (q ∷ qs) [] = refl
zip_cong f g h (q ∷ qs) (s ∷ sets) = ap₂ ◌∷◌ (h q s) (zip_cong f g h qs sets)

-- PRUNING by the margin and the tips common within k
pub prune-by : (m : ℕ) (qs sets : List ℕ) (k : ℕ)
    → zip_with (kept_by (V m (repeated qs sets) k) (margin m (repeated qs sets) k)) qs sets ≡ prune_q m qs sets k
unfolding prune_q kept_by kept_q
prune-by m qs sets k =
    let lines = repeated qs sets in
    let below = common_lt m lines k in
    zip_cong _ _ (λ q s. ap₂ (λ b w. cond b w s) (scarce-by m lines k q) (narrow-by m (V m lines k) s below)) qs sets

module _ (v : ℕ) (z : ℤ) {qs : List ℕ} (placed : All (λ q. 1 ≤ q) qs) (sets : List ℕ) (same : length qs ≡ length sets) where
  -- a margin below 1 is below every quantity: each line is narrowed
  pub prune-each : lt_z z (pos 1) ≡ true → map (narrow_by v) sets ≡ zip_with (kept_by v z) qs sets
  unfolding kept_by
  prune-each t = sym (zip-map (kept_by v z) (narrow_by v) (λ q s o. rw (below z q t o)) placed sets same)
    where
      below : (z : ℤ) (q : ℕ) → lt_z z (pos 1) ≡ true → 1 ≤ q → lt_z z (pos q) ≡ true
      below (pos a) q t o = lt-ltb a q (omega (arith, ltb-true a 1 t))
      below (negsuc a) q t o = refl

  -- any other is not below a quantity of 1, and with as many placements as lines there is no other: no line changes
  pub prune-none : lt_z z (pos 1) ≡ false → total qs ≡ length qs → sets ≡ zip_with (kept_by v z) qs sets
  unfolding kept_by
  prune-none f e = sym (zip-map (kept_by v z) (λ s. s) one (all_one placed (omega arith)) sets same ∙ map-id sets)
    where
      one : (q s : ℕ) → q ≡ 1 → kept_by v z q s ≡ s
      one q s o = ap (λ t. cond t (narrow_by v s) s) (ap (λ n. lt_z z (pos n)) o ∙ f)
