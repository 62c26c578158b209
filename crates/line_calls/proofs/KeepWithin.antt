-- Keep within k of lines: what it answers and leaves, and what the answer means.
use Prim.Native.Nat.{ℕ, ◌+◌, ◌^◌, ◌≤◌, ◌<◌}
use mathlib.Core.Path.{◌≡◌, refl, sym, ap, ◌∙◌}
use mathlib.Core.Logic.{◌↔◌, ⊎_elim}
use mathlib.Core.Bool.{Bool, true, false, cond, true≢false}
use mathlib.Core.List.{List, ◌++◌, append-nil}
use lib.Seq.{take-length, drop-length}
use native.Mathlib.Omega.{arith}
use lib.IntN.{ℤ, pos, negsuc}
use lib.ListN.{length, take, drop, take-append-drop}
use lib.Signed.{lt_z}
use mir.Syntax.{w32}
use mir.Val.{to_z, of_z, SFits}
use mir.ValLaws.{to_z-of_z}
use borrow.Author.Tests.{eq-eqb, ne_eqb, eqb-true, le-ltb}
use Rattle.model.specs.CommonTip.{top, margin}
use Rattle.model.proofs.Tests.{le_or_lt}
use Rattle.model.proofs.CommonTip.{margin_pos, margin_neg}
use Rattle.placements.specs.Repeated.{repeated}
use Rattle.placements.specs.Good.{GoodLines}
use Rattle.placements.specs.Keep.{prune_q, ExactQ}
use Rattle.placements.proofs.Repeated.{length-repeated}
use Rattle.placements.proofs.CommonTip.{within_iff_placements}
use Rattle.placements.proofs.Exact.{prune_exact_placements}
use Rattle.common_tip.specs.Common.{kept_lines}
use Rattle.common_tip.proofs.Laws.{margin_small}
use Rattle.common_tip.proofs.Signed.{zero_fits}
use Rattle.refusal.specs.Told.{Refusal}
use Rattle.refusal.specs.Refusal.{none, accepts, or_else, lent_by}
use Rattle.refusal.proofs.Laws.{when_taken, number_of, accepted}
use Rattle.call_refusals.specs.Calls.{is_negative, keep_refusal}
use Rattle.call_refusals.proofs.Calls.{keep-none}
use Rattle.line_calls.specs.Answers.{KeepAnswer}
use Rattle.line_calls.specs.Lines.{keep_of, sets_kept}
use Rattle.line_calls.specs.Rules.{NoneWithin, KeepRule}

module _ (m : ℕ) (lines : List ℕ) (k : ℕ) where
  -- below zero exactly when there are more placements than top + k
  pub negative_iff : (is_negative (margin m lines k) ≡ true) ↔ (top m lines + k < length lines)
  negative_iff = ⊎_elim above below (le_or_lt (length lines) (top m lines + k))
    where
      above : length lines ≤ top m lines + k → (is_negative (margin m lines k) ≡ true) ↔ (top m lines + k < length lines)
      above h = rw (margin_pos m lines k h) (λ e. let z : ◌≡◌ {A = ℕ} 0 1 = cc in absurd (omega arith), λ l. absurd (omega arith))

      below : top m lines + k < length lines → (is_negative (margin m lines k) ≡ true) ↔ (top m lines + k < length lines)
      below h = rw (margin_neg m lines k h) (λ _. h, λ _. refl)

  pub not_negative : is_negative (margin m lines k) ≡ false → length lines ≤ top m lines + k
  not_negative e = ⊎_elim (λ h. h) (λ h. absurd (true≢false (sym (negative_iff.1 h) ∙ e))) (le_or_lt (length lines) (top m lines + k))

-- lt_z and is_negative are one test
below_zero : (z : ℤ) → lt_z z (pos 0) ≡ is_negative z
below_zero (pos n) = le-ltb n 0 (omega arith)
below_zero (negsuc n) = refl

-- ---- the answers and the sets, refused and accepted

module _ (earlier : Refusal) (m : ℕ) (qs lines : List ℕ) (k : ℕ) (sets : List ℕ) where
  -- the two clauses of keep, for what the code answers and leaves
  abbrev pub Keeps : KeepAnswer → List ℕ → Type 0
  Keeps r last = (r ≡ keep_of earlier m qs lines k) × (last ≡ sets_kept earlier m qs lines k sets)

  pub keep-stopped : (earlier.number ≡ 0 → ⊥) → Keeps (record { refusal = earlier; margin = pos 0 }) sets
  unfolding keep_of sets_kept keep_refusal or_else
  keep-stopped n = (rw (ne_eqb earlier.number 0 n) refl, rw (ne_eqb earlier.number 0 n, ne_eqb earlier.number 0 n) refl)

  pub keep-through : earlier.number ≡ 0 → {n : ℕ} → n ≡ length lines → take n sets ≡ lines → {y : ℤ} {d : Refusal} {kept : List ℕ}
      → y ≡ margin m (repeated qs lines) k → d ≡ keep_refusal earlier y → kept ≡ kept_lines m qs lines k
      → Keeps (record { refusal = d; margin = y }) (kept ++ drop n sets)
  unfolding keep_of sets_kept keep_refusal or_else kept_lines
  keep-through z {n} size front {y} {d} {kept} e f g = (rw (f, e, eq-eqb earlier.number 0 z) refl, by (is_negative z₀) refl)
    where
      z₀ : ℤ
      z₀ = margin m (repeated qs lines) k

      by : (t : Bool) → is_negative z₀ ≡ t → kept ++ drop n sets ≡ lent_by (keep_refusal earlier z₀) (length lines) (prune_q m qs lines k) sets
      by true t =
          let same : kept ≡ lines = rw (below_zero z₀, t) at g in
          rw (eq-eqb earlier.number 0 z, t) (ap (λ l. l ++ drop n sets) (same ∙ sym front) ∙ take-append-drop n sets)
      by false t =
          let pruned : kept ≡ prune_q m qs lines k = rw (below_zero z₀, t) at g in
          rw (eq-eqb earlier.number 0 z, t, pruned, size) refl

-- ---- what the answer means

module _ (earlier : Refusal) {m : ℕ} {qs lines : List ℕ} (k : ℕ) (good : earlier.number ≡ 0 → GoodLines m qs lines) where
  abbrev r : Refusal
  r = keep_refusal earlier (margin m (repeated qs lines) k)

  pub keep_exact : r.number ≡ 0 → ExactQ m qs lines k (prune_q m qs lines k)
  keep_exact z =
      let (free, sign) = keep-none earlier (margin m (repeated qs lines) k) z in
      let g = good free in
      prune_exact_placements k g.some g.domains qs g.same (not_negative m (repeated qs lines) k sign)

  pub keep-refuses : earlier.number ≡ 0 → (r.number ≡ 26) ↔ NoneWithin m qs lines k
  unfolding keep_refusal or_else
  keep-refuses free =
      let g = good free in
      let placements = repeated qs lines in
      let size = length-repeated qs lines g.same in
      let some = within_iff_placements g.some g.domains qs g.same k in
      let neg = negative_iff m placements k in
      rw (eq-eqb earlier.number 0 free) (
        λ z plan v w.
            omega (arith, neg.0 (when_taken (is_negative (margin m placements k)) 26 (omega (arith, z))), some.0 (plan, v, w), size),
        λ f.
            rw (neg.1 (⊎_elim (λ h. let (plan, v, w) = some.1 h in absurd (f plan v w)) (λ h. h)
            (le_or_lt (length placements) (top m placements + k)))) refl,
      )

  -- the kept lines are as many
  pub keep-length : r.number ≡ 0 → length (prune_q m qs lines k) ≡ length lines
  keep-length z = (keep_exact z).same_length

  pub keep_good : r.number ≡ 0 → GoodLines m qs (prune_q m qs lines k)
  keep_good z =
      let g = good (keep-none earlier (margin m (repeated qs lines) k) z).0 in
      record {
        some = g.some;
        most = g.most;
        few-lines = omega (arith, keep-length z, g.few-lines);
        same = omega (arith, keep-length z, g.same);
        placed = g.placed;
        few = g.few;
        domains = (keep_exact z).domains;
      }

  -- the margin told is read back from its 32 bits
  pub keep_bits : k < 2 ^ 16 → let y = (keep_of earlier m qs lines k).margin in to_z w32 (of_z w32 y) ≡ y
  unfolding keep_of
  keep_bits h = to_z-of_z w32 _ (by (accepts earlier) refl)
    where
      by : (t : Bool) → accepts earlier ≡ t → SFits w32 (cond t (margin m (repeated qs lines) k) (pos 0))
      by true e = let g = good (eqb-true earlier.number 0 e) in margin_small m k (record { same = g.same; few = g.few }) h
      by false e = zero_fits

-- the same for the lines alone, where nothing is refused before
module _ (m : ℕ) (qs lines : List ℕ) (k : ℕ) where
  pub keep-all : {y z : ℤ} {d : Refusal} {kept : List ℕ} → y ≡ margin m (repeated qs lines) k → d ≡ keep_refusal none y → z ≡ y
      → kept ≡ kept_lines m qs lines k → Keeps none m qs lines k lines (record { refusal = d; margin = z }) kept
  keep-all {y} {z} {d} {kept} e f g h =
      let whole : take (length lines) lines ≡ lines = take-length lines in
      let through = keep-through none m qs lines k lines refl {n = length lines} refl whole e f h in
      let last : kept ++ drop (length lines) lines ≡ kept = ap (λ l. kept ++ l) (drop-length lines) ∙ append-nil kept in
      (rw g through.0, sym last ∙ through.1)

  -- THE KEEP RULE of what the code answers and leaves
  pub keep-rule : GoodLines m qs lines → {r : KeepAnswer} {last : List ℕ} → Keeps none m qs lines k lines r last
      → KeepRule none.number m qs lines k last r.refusal.number
  unfolding keep_of sets_kept
  keep-rule good {r} {last} (answer, left) =
      let told : r.refusal ≡ keep_refusal none (margin m (repeated qs lines) k) = ap (λ a. a.refusal) answer in
      let (there, back) = keep-refuses none k (λ _. good) refl in
      record {
        exact = λ z.
            let kept : last ≡ prune_q m qs lines k =
            left ∙ accepted _ lines told z ∙ rw (drop-length lines) (append-nil (prune_q m qs lines k)) in
            rw kept (keep_exact none k (λ _. good) (number_of told z));
        refuses = λ _. (λ e. there (ap (λ x. x.number) (sym told) ∙ e), λ f. ap (λ x. x.number) told ∙ back f);
      }
