-- Lines that a call changes and that are then written: what is in the output.
use Prim.Native.Nat.{ℕ}
use mathlib.Core.Path.{◌≡◌, refl, sym, ap₂, ◌∙◌}
use mathlib.Core.Logic.{◌↔◌, ⊎_elim}
use mathlib.Core.Bool.{Bool, true, false, cond}
use mathlib.Core.List.{List, ◌++◌}
use native.Mathlib.Omega.{arith}
use lib.Dec.{ltb}
use lib.ListN.{length, take, drop}
use lib.Seq.{take_at}
use borrow.Author.Tests.{eqb-true}
use Rattle.placements.specs.Good.{GoodLines}
use Rattle.refusal.specs.Told.{Refusal}
use Rattle.refusal.specs.Refusal.{accepts, or_else, when}
use Rattle.refusal.proofs.Laws.{accepted}
use Rattle.job.specs.Job.{Bytes, file_length, paired, bytes_of_lines, file_of, version_for, written_of}
use Rattle.job.specs.Job.{version_in, rack_in, quantities_in, InShorterForm, ReadsAs}
use Rattle.job.proofs.HeaderLaws.{version_back}
use Rattle.job.proofs.Reading.{bytes_quantities}
use Rattle.job.proofs.Writing.{version-for, length-file_of, written_back}
use Rattle.call_refusals.specs.Calls.{write_refusal}
use Rattle.call_refusals.proofs.Calls.{write_none}
use Rattle.line_calls.specs.Lines.{write_of, write_buffer}

-- ---- the output

-- a refusal that is none of the output's stays
pub same_number : (earlier : Refusal) (v n room x : ℕ) → (x ≡ 0 → ⊥) → (x ≡ 11 → ⊥)
    → ((write_refusal earlier v n room).number ≡ x) ↔ (earlier.number ≡ x)
unfolding write_refusal or_else
same_number earlier v n room x some other = by (accepts earlier) (ltb room (file_length v n)) refl
  where
    by : (t short : Bool) → accepts earlier ≡ t → ((cond t (when short 11) earlier).number ≡ x) ↔ (earlier.number ≡ x)
    by true true e = (λ h. absurd (other (sym h)), λ h. absurd (some (sym h ∙ eqb-true earlier.number 0 e)))
    by true false e = (λ h. absurd (some (sym h)), λ h. absurd (some (sym h ∙ eqb-true earlier.number 0 e)))
    by false short e = (λ h. h, λ h. h)

-- what is written has the version for its quantities
pub written_version : (m : ℕ) (qs sets : List ℕ) → version_in (written_of m qs sets) ≡ version_for qs
unfolding file_of
written_version m qs sets =
    let v = version_for qs in
    let lines = paired sets qs in
    version_back v m (length lines) (bytes_of_lines v lines) (⊎_elim (λ e. omega (arith, e)) (λ e. omega (arith, e)) (version-for qs))

-- lines with the rack and the quantities of a file, written after a refusal
module _ (file : List ℕ) (earlier : Refusal) (lines : List ℕ) (good : earlier.number ≡ 0 → GoodLines (rack_in file) (quantities_in file) lines)
    (out : List ℕ) where
  abbrev m : ℕ
  m = rack_in file

  abbrev qs : List ℕ
  qs = quantities_in file

  abbrev pub decided : Refusal
  decided = write_refusal earlier (version_for qs) (length lines) (length out)

  -- the bytes in the output
  abbrev pub in_output : List ℕ
  in_output = take (write_of earlier qs lines (length out)).bytes (write_buffer earlier m qs lines out)

  module _ (z : decided.number ≡ 0) where
    pub earlier_none : earlier.number ≡ 0
    earlier_none = (write_none earlier (version_for qs) (length lines) (length out) z).0

    -- they are the file of the lines and their quantities
    written : in_output ≡ written_of m qs lines
    unfolding write_of write_buffer
    written =
        let size = file_length (version_for qs) (length lines) in
        ap₂ take (accepted size 0 {d = decided} refl z) (accepted (written_of m qs lines ++ drop size out) out {d = decided} refl z)
        ∙ take_at (written_of m qs lines) (drop size out) size (length-file_of (version_for qs) m qs lines (good earlier_none).same)

    -- and read as these: each quantity is a byte of the file, or 1
    module _ (bytes : Bytes file) where
      pub reads : ReadsAs m qs lines in_output
      reads = rw written (written_back m qs lines (good earlier_none) (bytes_quantities file bytes))

      pub shorter : InShorterForm in_output
      shorter = rw (reads.quantities_are, written) (written_version m qs lines)
