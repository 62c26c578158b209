-- The Junior on the lines that were read gives what it gives for the file.
use Prim.Native.Nat.{ℕ}
use mathlib.Core.Path.{◌≡◌, sym, ap, ◌∙◌}
use mathlib.Core.List.{List}
use lib.ListN.{length}
use Rattle.placements.specs.Good.{GoodLines}
use Rattle.refusal.specs.Told.{Refusal}
use Rattle.refusal.proofs.Laws.{number_of}
use Rattle.job.specs.Job.{rack_in, sets_in, quantities_in, read_refusal}
use Rattle.line_calls.specs.Answers.{JuniorAnswer}
use Rattle.line_calls.specs.Junior as Lines
use Rattle.line_calls.proofs.Refused.{junior_same, junior_buffer_same}
use Rattle.line_calls.proofs.JuniorPlan.{junior_rule}
use Rattle.file_calls.specs.Junior.{junior_outcome, junior_in, junior_plan_in, JuniorRuleOf}
use Rattle.file_calls.proofs.ReadLines.{AsRead, of-file}

module _ (file : List ℕ) {d : Refusal} (e : d ≡ read_refusal file) {m : ℕ} {qs lines : List ℕ} (same : d.number ≡ 0 → AsRead file m qs lines) where
  pub junior-in : (d.number ≡ 0 → GoodLines m qs lines) → (plan : List ℕ) {a : JuniorAnswer} {last : List ℕ}
      → a ≡ Lines.junior_of d m qs lines (length plan) → last ≡ Lines.junior_buffer d m qs lines plan
      → (junior_outcome a ≡ junior_in file (length plan))
      × ((last ≡ junior_plan_in file plan) × JuniorRuleOf file (length plan) last (junior_outcome a))
  unfolding junior_in junior_plan_in
  junior-in good plan p q =
      let told = p ∙ junior_same d same plan ∙ of-file file e (λ r k q l. Lines.junior_of r k q l (length plan)) in
      let left = q ∙ junior_buffer_same d same plan ∙ of-file file e (λ r k q l. Lines.junior_buffer r k q l plan) in
      let lines_good : (read_refusal file).number ≡ 0 → GoodLines (rack_in file) (quantities_in file) (sets_in file) =
      λ z. let f = number_of (sym e) z in let (a, b, c) = same f in rw (a, b, c) at (good f) in
      let rule = junior_rule (read_refusal file) (rack_in file) (quantities_in file) (sets_in file) plan lines_good in
      (ap junior_outcome told, (left, rw (told, left) rule))
