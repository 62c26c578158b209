-- Merging two files that reading accepts: what is refused by their headers, the version of both, and where the lines of each are put.
use Prim.Native.Nat.{ℕ, ◌+◌, ◌-◌}
use native.Mathlib.Omega.{arith}
use mathlib.Core.Path.{◌≡◌, refl, sym, ap, ap₂, subst, ◌∙◌}
use mathlib.Core.Bool.{cond}
use mathlib.Core.List.{List, [], ◌++◌, append_assoc, append-nil}
use lib.Dec.{eqb}
use lib.ListN.{length, take, drop, length-append, length-drop, drop_of_length-le}
use lib.Seq.{take_at}
use borrow.Rule.Slice.PartMut.{put_mid, post_of}
use Rattle.placements.specs.Repeated.{total}
use Rattle.placements.proofs.Totals.{total-append}
use Rattle.refusal.specs.Told.{Refusal}
use Rattle.refusal.specs.Refusal.{none}
use Rattle.model.proofs.Append.{all_append}
use Rattle.job.specs.Job.{version_for, rack_in, count_in, sets_in, quantities_in, read_refusal}
use Rattle.job.proofs.Reading.{length-sets_in, length-quantities_in, read_good}
use Rattle.job.proofs.Writing.{version_by_total}
use Rattle.line_calls.specs.Answers.{FileAnswer}
use Rattle.line_calls.specs.Lines.{write_of, write_buffer}
use Rattle.line_calls.proofs.JobFile.{write_stopped}
use Rattle.panel.specs.Panel.{merge_refusal, merge_of}
use Rattle.panel.specs.Files.{merge_of_read}

module _ (first second : List ℕ) where
  -- the headers and the totals tell the refusal
  pub by_headers : {m o n t : ℕ} → m ≡ rack_in first → o ≡ rack_in second → n ≡ count_in first + count_in second
      → t ≡ total (quantities_in first) + total (quantities_in second) → merge_refusal none m o n t ≡ merge_of_read first second
  unfolding merge_of
  by_headers e f g h = rw (e, f, g, h, length-sets_in first, length-sets_in second) refl

  -- there is a set for each line of both
  pub size_of_both : {n : ℕ} → n ≡ count_in first + count_in second → n ≡ length (sets_in first ++ sets_in second)
  size_of_both g = omega (arith, g, length-append (sets_in first) (sets_in second), length-sets_in first, length-sets_in second)

  -- the totals tell the version too
  pub version_of_both : (read_refusal first).number ≡ 0 → (read_refusal second).number ≡ 0 → {n t : ℕ} → n ≡ count_in first + count_in second
      → t ≡ total (quantities_in first) + total (quantities_in second)
      → cond (eqb t n) 1 2 ≡ version_for (quantities_in first ++ quantities_in second)
  version_of_both a b {n} {t} g h =
      let qs = quantities_in first in
      let rs = quantities_in second in
      let size : n ≡ length (qs ++ rs) = omega (arith, g, length-append qs rs, length-quantities_in first, length-quantities_in second) in
      rw (size, h, sym (total-append qs rs)) (version_by_total (qs ++ rs) (all_append (read_good first a).placed (read_good second b).placed))

  -- what is refused before the output is looked at leaves it as it was
  pub merge-stopped : (out : List ℕ) (d : Refusal) → d ≡ merge_of_read first second → (d.number ≡ 0 → ⊥)
      → let qs = quantities_in first ++ quantities_in second in let lines = sets_in first ++ sets_in second in
      (◌≡◌ {A = FileAnswer} (record { refusal = d; bytes = 0 }) (write_of (merge_of_read first second) qs lines (length out)))
      × (out ≡ write_buffer (merge_of_read first second) (rack_in first) qs lines out)
  merge-stopped out d e f =
      let qs = quantities_in first ++ quantities_in second in
      let lines = sets_in first ++ sets_in second in
      subst
      (λ (r : Refusal). (◌≡◌ {A = FileAnswer} (record { refusal = d; bytes = 0 }) (write_of r qs lines (length out)))
      × (out ≡ write_buffer r (rack_in first) qs lines out))
      e (write_stopped d (rack_in first) qs lines out f)

-- behind a header the first lines are put up to m, and the second from m to the end
pub put_both : (out head rest lines more : List ℕ) (a m : ℕ) → out ≡ head ++ rest → length head ≡ a → length (head ++ lines) ≡ m
    → let last = put_mid a (m - a) out lines in take m last ++ (more ++ post_of m (length last - m) last) ≡ head ++ (lines ++ more)
put_both out head rest lines more a m e f g =
    let behind = post_of a (m - a) out in
    let last = put_mid a (m - a) out lines in
    let front : take a out ≡ head = ap (take a) e ∙ take_at head rest a f in
    let all : last ≡ (head ++ lines) ++ behind = ap (λ l. l ++ (lines ++ behind)) front ∙ sym (append_assoc head lines behind) in
    let gone : post_of m (length last - m) last ≡ [] = drop_of_length-le (drop m last) (omega (arith, length-drop m last)) in
    ap₂ (λ l r. l ++ (more ++ r)) (ap (take m) all ∙ take_at (head ++ lines) behind m g) gone
    ∙ ap (λ l. (head ++ lines) ++ l) (append-nil more)
    ∙ append_assoc head lines more
