-- Common tip of lines, refused and accepted.
use Prim.Native.Nat.{ℕ, ◌-◌}
use mathlib.Core.Path.{◌≡◌, refl}
use mathlib.Core.List.{List}
use borrow.Author.Tests.{eq-eqb, ne_eqb}
use Rattle.model.specs.CommonTip.{top, W}
use Rattle.model.proofs.CommonTip.{W-tips}
use Rattle.placements.specs.Repeated.{total, repeated}
use Rattle.placements.specs.Good.{GoodLines}
use Rattle.placements.proofs.Repeated.{all-repeated}
use Rattle.placements.proofs.CommonTip.{least_off-placements}
use Rattle.refusal.specs.Told.{Refusal}
use Rattle.line_calls.specs.Answers.{CommonAnswer}
use Rattle.line_calls.specs.Lines.{common_of}
use Rattle.line_calls.specs.Rules.{CommonRule}

module _ (earlier : Refusal) (m : ℕ) (qs lines : List ℕ) where
  -- the two clauses of common tip, for what the code answers
  abbrev Answers : CommonAnswer → Type 0
  Answers r = (r ≡ common_of earlier m qs lines) × CommonRule m qs lines r.refusal.number r.top r.off r.tips

  pub common_refused : (earlier.number ≡ 0 → ⊥) → Answers (record { refusal = earlier; top = 0; off = 0; tips = 0 })
  unfolding common_of
  common_refused n = (
    rw (ne_eqb earlier.number 0 n) refl,
    record { off_least = λ z. absurd (n z); tips_exact = λ z. absurd (n z) },
  )

  pub common_accepted : earlier.number ≡ 0 → GoodLines m qs lines → {t d w : ℕ}
      → t ≡ top m (repeated qs lines) → d ≡ total qs - t → w ≡ W m (repeated qs lines)
      → Answers (record { refusal = earlier; top = t; off = d; tips = w })
  unfolding common_of
  common_accepted z good e g f = (
    rw (eq-eqb earlier.number 0 z, g, e, f) refl,
    record {
      off_least = λ _. rw (g, e) (least_off-placements good.some good.domains qs good.same);
      tips_exact = λ _. rw (e, f) (W-tips (all-repeated qs good.domains));
    },
  )
