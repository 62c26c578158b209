-- The length of the report, and that what the first lines give is no longer than what all lines give.
use Prim.Native.Nat.{ℕ, ◌≤◌, ◌+◌, ◌*◌}
use native.Mathlib.Omega.{arith}
use native.Mathlib.Nat.{mul-le-mul_left}
use mathlib.Core.Path.{◌≡◌, refl, sym, ap, ◌∙◌}
use mathlib.Core.Bool.{Bool, true, false, cond, ◌||◌}
use mathlib.Core.List.{List, [], ◌++◌}
use lib.ListN.{length, take, drop, length-append, take-append-drop}
use lib.Dec.{ltb}
use borrow.Author.Tests.{le-ltb, ltb-false}
use Rattle.job.specs.Job.{header_length, line_length, file_length, bytes_of_lines, version_in, rack_in}
use Rattle.mend_rules.specs.Mending.{noted, running, kept, changes, read_count, read_lines, lines_kept_in, mended_file, whole_file}
use Rattle.mend_rules.specs.Mending.{recounted, has_more_bytes, changes_in, bytes_of_changes, mended_report}
use Rattle.job.proofs.Lines.{length-bytes_of_lines, lines-append}
use Rattle.mend_rules.proofs.Steps.{kept_append, changes-append, report_append}
use Rattle.mend_rules.proofs.Files.{kept_few}
use Rattle.mend_rules.proofs.Lengths.{length_report, report_bound, length_mended}
use Rattle.mend.specs.Mend.{line_changes}
use Rattle.mend.proofs.Codes.{length-noted}
use Rattle.mend.proofs.Pass.{kept_to, changes_to}

module _ (file : List ℕ) (k : ℕ) where
  whole : take k (read_lines file) ++ drop k (read_lines file) ≡ read_lines file
  whole = take-append-drop k (read_lines file)

  pub lines_room : (v : ℕ) → length (bytes_of_lines v (kept_to file k)) ≤ length (bytes_of_lines v (lines_kept_in file))
  lines_room v =
      let m = rack_in file in
      let a = take k (read_lines file) in
      let b = drop k (read_lines file) in
      let rest = kept m (running m 0 a) b in
      let e : bytes_of_lines v (lines_kept_in file) ≡ bytes_of_lines v (kept_to file k) ++ bytes_of_lines v rest =
      ap (λ x. bytes_of_lines v (kept m 0 x)) (sym whole) ∙ ap (bytes_of_lines v) (kept_append m 0 a b) ∙ lines-append v (kept_to file k) rest in
      omega (arith, ap length e, length-append (bytes_of_lines v (kept_to file k)) (bytes_of_lines v rest))

  pub report_room : length (bytes_of_changes (changes_to file k)) ≤ length (bytes_of_changes (changes (rack_in file) 0 0 (read_lines file)))
  report_room =
      let m = rack_in file in
      let a = take k (read_lines file) in
      let b = drop k (read_lines file) in
      let rest = changes m (0 + length a) (running m 0 a) b in
      let e : bytes_of_changes (changes m 0 0 (read_lines file)) ≡ bytes_of_changes (changes_to file k) ++ bytes_of_changes rest =
      ap (λ x. bytes_of_changes (changes m 0 0 x)) (sym whole) ∙ ap bytes_of_changes (changes-append m 0 0 a b) ∙
      report_append (changes_to file k) rest in
      omega (arith, ap length e, length-append (bytes_of_changes (changes_to file k)) (bytes_of_changes rest))

module _ (file : List ℕ) where
  -- the report has three bytes for each change of a line, and for each of the file
  pub report_length : length (mended_report file) ≡ 3 * (length (line_changes file) + cond (recounted file) 1 0 + cond (has_more_bytes file) 1 0)
  unfolding changes_in
  report_length =
      let last : List (ℕ × ℕ) = noted (has_more_bytes file) (whole_file, 6) [] in
      let both : List (ℕ × ℕ) = noted (recounted file) (whole_file, 5) last in
      let e : length (changes_in file) ≡ length (line_changes file) + length both = length-append (line_changes file) both in
      let f : length both ≡ cond (recounted file) 1 0 + length last = length-noted (recounted file) (whole_file, 5) last in
      let g : length last ≡ cond (has_more_bytes file) 1 0 + 0 = length-noted {A = ℕ × ℕ} (has_more_bytes file) (whole_file, 6) [] in
      omega (arith, length_report (changes_in file), e, f, g)

  -- the mended file has its header, and its lines
  pub mended_parts : length (mended_file file) ≡ header_length + length (bytes_of_lines (version_in file) (lines_kept_in file))
  mended_parts = omega (arith, length_mended file, length-bytes_of_lines (version_in file) (lines_kept_in file))

  -- where the most that can be written fits, so do both
  pub never_short : (room space : ℕ) → file_length (version_in file) (read_count file) ≤ room → 3 * (2 * read_count file + 3) ≤ space
      → (ltb room (length (mended_file file)) || ltb space (length (mended_report file))) ≡ false
  never_short room space f g =
      let few = mul-le-mul_left (line_length (version_in file)) (kept_few file) in
      rw (
        le-ltb room (length (mended_file file)) (omega (arith, f, length_mended file, few)),
        le-ltb space (length (mended_report file)) (omega (arith, g, report_bound file)),
      ) refl

-- neither of two tests, that a length is above a room
pub both-fit : (a b c d : ℕ) → (ltb a b || ltb c d) ≡ false → (b ≤ a) × (d ≤ c)
both-fit a b c d e = let (f, g) = neither (ltb a b) (ltb c d) e in (ltb-false a b f, ltb-false c d g)
  where
    neither : (x y : Bool) → (x || y) ≡ false → (x ≡ false) × (y ≡ false)
    neither false y e = (refl, e)
    neither true y e = cc
