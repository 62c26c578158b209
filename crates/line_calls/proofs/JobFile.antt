-- Writing the file of lines, refused and accepted.
use Prim.Native.Nat.{ℕ}
use mathlib.Core.Path.{◌≡◌, refl}
use mathlib.Core.List.{List, ◌++◌}
use lib.ListN.{length, drop}
use Rattle.refusal.specs.Told.{Refusal}
use Rattle.refusal.proofs.Laws.{or_first, refused, accepted, lent_refused, lent_accepted}
use Rattle.call_refusals.specs.Calls.{write_refusal}
use Rattle.job.specs.Job.{file_length, version_for, written_of}
use Rattle.line_calls.specs.Answers.{FileAnswer}
use Rattle.line_calls.specs.Lines.{write_of, write_buffer}

module _ (earlier : Refusal) (m : ℕ) (qs lines old : List ℕ) where
  -- the two clauses of writing, for what the code answers and leaves
  abbrev Writes : FileAnswer → List ℕ → Type 0
  Writes r last = (r ≡ write_of earlier qs lines (length old)) × (last ≡ write_buffer earlier m qs lines old)

  abbrev decision : Refusal
  decision = write_refusal earlier (version_for qs) (length lines) (length old)

  refused-by : {d : Refusal} → d ≡ decision → (d.number ≡ 0 → ⊥) → Writes (record { refusal = d; bytes = 0 }) old
  unfolding write_of write_buffer
  refused-by e f =
      let bytes = file_length (version_for qs) (length lines) in
      (rw (e, refused bytes 0 e f) refl, lent_refused e bytes (written_of m qs lines) old f)

  -- an earlier refusal stays, whatever the lines are
  pub write_stopped : (earlier.number ≡ 0 → ⊥) → Writes (record { refusal = earlier; bytes = 0 }) old
  unfolding write_refusal
  write_stopped f = refused-by (or_first {d = earlier} refl _ f) f

  -- the decision by a version and a count that are those of the lines
  module _ {v n : ℕ} {d : Refusal} (by_count : d ≡ write_refusal earlier v n (length old))
      (version : v ≡ version_for qs) (size : n ≡ length lines) where
    e : d ≡ decision
    e = rw (version, size) at by_count

    pub write-refused : (d.number ≡ 0 → ⊥) → Writes (record { refusal = d; bytes = 0 }) old
    write-refused f = refused-by e f

    pub write_accepted : d.number ≡ 0 → {bytes : ℕ} {out : List ℕ} → bytes ≡ file_length v n → out ≡ written_of m qs lines
        → Writes (record { refusal = d; bytes = bytes }) (out ++ drop bytes old)
    unfolding write_of write_buffer
    write_accepted z b o =
        let bytes = file_length (version_for qs) (length lines) in (
          rw (e, b, version, size, accepted bytes 0 e z) refl,
          rw (b, version, size) (lent_accepted e bytes (written_of m qs lines) old z o),
        )
