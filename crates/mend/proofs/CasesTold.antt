-- What mending refuses is what its cases tell.
use Prim.Native.Nat.{ℕ}
use mathlib.Core.Logic.{◌↔◌, ◌⊎◌, inl, inr, ⊎_elim}
use mathlib.Core.Bool.{Bool, true, false, ◌||◌}
use mathlib.Core.List.{List}
use lib.Dec.{T, ltb}
use lib.ListN.{length}
use Rattle.job.specs.Job.{start_number}
use Rattle.refusal.specs.Refusal.{refuse, when}
use Rattle.refusal.specs.declared.Reason.TheVariants.{ShortOutput}
use Rattle.cases.specs.Cases.{Told}
use Rattle.cases.proofs.Laws.{told_or, told_when}
use Rattle.call_cases.specs.Reading.{start_cases}
use Rattle.call_cases.proofs.Tests.{less_iff}
use Rattle.call_cases.proofs.Reading.{start_told}
use Rattle.mend_rules.specs.Mending.{mended_file, mended_report, mend_refusal}
use Rattle.mend.specs.Cases.{mend_cases}

either_iff : (a b : Bool) {P Q : Type 0} → T a ↔ P → T b ↔ Q → T (a || b) ↔ (P ⊎ Q)
either_iff true b f g = (λ _. inl (f.0 tt), λ _. tt)
either_iff false b f g = (λ t. inr (g.0 t), ⊎_elim (λ p. absurd (f.1 p)) g.1)

module _ (file : List ℕ) (room space : ℕ) where
  pub refusal_told : Told (mend_cases file room space) (mend_refusal file room space)
  unfolding mend_refusal
  refusal_told =
      let long = ltb room (length (mended_file file)) in
      let full = ltb space (length (mended_report file)) in
      told_or (refuse (start_number file)) (when (long || full) 11) (start_cases file) _ (start_told file)
      (λ _. told_when ShortOutput (long || full)
      (either_iff long full (less_iff room (length (mended_file file))) (less_iff space (length (mended_report file)))))
