-- Racks and lines count only where nothing is refused earlier: after a refusal each call answers and leaves the same, whatever they are.
use Prim.Native.Nat.{ℕ}
use mathlib.Core.Path.{◌≡◌, refl, sym, ◌∙◌}
use mathlib.Core.Bool.{Bool, true, false}
use mathlib.Core.List.{List}
use lib.ListN.{length}
use borrow.Author.Tests.{eqb-true, eqb-false}
use Rattle.refusal.specs.Told.{Refusal}
use Rattle.refusal.specs.Refusal.{accepts}
use Rattle.refusal.proofs.Laws.{or_same}
use Rattle.line_calls.proofs.Refused.{Same, half_rule_same}
use Rattle.panel.specs.Panel.{merge_refusal, merge_of, alone_of, alone_buffer}
use Rattle.panel.specs.Rules.{AloneRule}
use Rattle.panel.proofs.BothPlans.{alone_stopped, alone_refused}

module _ (earlier : Refusal) {m k o l : ℕ} {qs qs' lines lines' rs rs' others others' : List ℕ}
    (same : earlier.number ≡ 0 → Same m k qs qs' lines lines' × Same o l rs rs' others others') where
  pub merge_same : merge_of earlier m qs lines o rs others ≡ merge_of earlier k qs' lines' l rs' others'
  unfolding merge_of merge_refusal
  merge_same = or_same earlier (λ z. let ((a, b, c), (d, e, f)) = same z in rw (a, b, c, d, e, f) refl)

  by_earlier : {A : Type 0} (f : ℕ → List ℕ → List ℕ → ℕ → List ℕ → List ℕ → A) {x : A}
      → ((earlier.number ≡ 0 → ⊥) → (i : ℕ) (q s : List ℕ) (j : ℕ) (r t : List ℕ) → x ≡ f i q s j r t)
      → f m qs lines o rs others ≡ f k qs' lines' l rs' others'
  by_earlier f {x} stopped = by (accepts earlier) refl
    where
      by : (t : Bool) → accepts earlier ≡ t → f m qs lines o rs others ≡ f k qs' lines' l rs' others'
      by true e = let ((a, b, c), (d, g, h)) = same (eqb-true earlier.number 0 e) in rw (a, b, c, d, g, h) refl
      by false e = let n = eqb-false earlier.number 0 e in sym (stopped n m qs lines o rs others) ∙ stopped n k qs' lines' l rs' others'

  module _ (plan : List ℕ) where
    pub alone_same : alone_of earlier m qs lines o rs others (length plan) ≡ alone_of earlier k qs' lines' l rs' others' (length plan)
    alone_same =
        by_earlier (λ i q s j r t. alone_of earlier i q s j r t (length plan))
        (λ n i q s j r t. (alone_refused earlier i q s j r t plan (alone_stopped earlier s t (length plan) n) n).0)

    pub alone_buffer_same : alone_buffer earlier m qs lines o rs others plan ≡ alone_buffer earlier k qs' lines' l rs' others' plan
    alone_buffer_same =
        by_earlier (λ i q s j r t. alone_buffer earlier i q s j r t plan)
        (λ n i q s j r t. (alone_refused earlier i q s j r t plan (alone_stopped earlier s t (length plan) n) n).1.0)

-- the rule speaks of lines only where its number is 0
pub alone_rule_same : {m k o l : ℕ} {qs qs' lines lines' rs rs' others others' : List ℕ} {number : ℕ}
    → (number ≡ 0 → Same m k qs qs' lines lines' × Same o l rs rs' others others') → {buffer : List ℕ} {first second : ℕ}
    → AloneRule qs lines rs others buffer number first second → AloneRule qs' lines' rs' others' buffer number first second
alone_rule_same same r = record {
  first_half = half_rule_same (λ z. (same z).0) r.first_half;
  second_half = let moved = half_rule_same (λ z. (same z).1) r.second_half in record {
    plan = λ z. let (_, _, c) = (same z).0 in rw (← c) (moved.plan z);
    half = λ z. moved.half z;
  };
}
