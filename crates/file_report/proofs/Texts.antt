-- The text for a file by cases on its refusal, and for the part of a file that is taken.
use Prim.Native.Nat.{ℕ, min, ◌≤◌, ◌<◌}
use mathlib.Core.Path.{◌≡◌, refl, sym, ap, ◌∙◌}
use mathlib.Core.Logic.{⊎_elim}
use mathlib.Core.Bool.{cond}
use mathlib.Core.List.{List, []}
use native.Mathlib.Omega.{arith}
use native.Mathlib.Nat.{min-eq_left, min-eq_right}
use lib.ListN.{length, take, length-append, length-drop}
use lib.Seq.{take_all, take-length}
use borrow.Author.Tests.{lt-ltb, le-ltb}
use Rattle.model.proofs.Tests.{le_or_lt}
use Rattle.refusal.specs.Told.{Refusal}
use Rattle.refusal.proofs.Laws.{refused, accepted}
use Rattle.job.specs.Job.{rack_in, sets_in, quantities_in, read_refusal}
use Rattle.report.specs.Report.{report_of, refused_text}
use Rattle.text.specs.Buffer.{Printed}
use Rattle.file_report.specs.Summary.{taken_bytes, text_room, facts_of, text_of, summary_of}

-- a text that is printed into a buffer fits it
pub printed_fits : {text before after : List ℕ} {n : ℕ} → Printed text before n after → length after ≡ length before → n ≤ length after
printed_fits {text} {before} p e = omega (arith, p.size, e, simp (length-append, length-drop) at (ap length p.bytes))

module _ (file : List ℕ) {d : Refusal} (e : d ≡ read_refusal file) where
  pub text_refused : (d.number ≡ 0 → ⊥) → text_of file ≡ refused_text d.number
  unfolding text_of
  text_refused n = refused _ _ e n ∙ ap (λ r. refused_text r.number) (sym e)

  -- the report on an accepted file is that on the lines that were read
  pub text_accepted : d.number ≡ 0 → {m : ℕ} {qs sets : List ℕ} → m ≡ rack_in file → sets ≡ sets_in file → qs ≡ quantities_in file
      → text_of file ≡ report_of (facts_of m qs sets)
  unfolding text_of
  text_accepted z rack read quantities = accepted _ _ e z ∙ rw (rack, read, quantities) refl

-- at most n elements, and no more than there are
take_least : (n : ℕ) (xs : List ℕ) → take (min (length xs) n) xs ≡ take n xs
take_least n xs =
    ⊎_elim (λ h. rw (min-eq_left {n = length xs} {m = n} h) (take-length xs ∙ sym (take_all n xs h)))
    (λ (h : n < length xs). let l : n ≤ length xs = omega arith in rw (min-eq_right {n = n} {m = length xs} l))
    (le_or_lt (length xs) n)

module _ (file : List ℕ) (room : ℕ) where
  pub summary_none : room < text_room → summary_of file room ≡ []
  unfolding summary_of
  summary_none h = ap (λ t. cond t [] (text_of (take taken_bytes file))) (lt-ltb room text_room h)

  pub summary_text : text_room ≤ room → {n : ℕ} → n ≡ min (length file) taken_bytes → summary_of file room ≡ text_of (take n file)
  unfolding summary_of
  summary_text h e =
      ap (λ t. cond t [] (text_of (take taken_bytes file))) (le-ltb room text_room h)
      ∙ ap text_of (sym (take_least taken_bytes file)) ∙ ap (λ k. text_of (take k file)) (sym e)
