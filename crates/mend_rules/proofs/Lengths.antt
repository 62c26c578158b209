-- The lengths of the mended file and of its report.
use Prim.Native.Nat.{ℕ, ◌+◌, ◌*◌, ◌-◌, ◌/◌, ◌≤◌}
use native.Mathlib.Omega.{arith}
use native.Mathlib.Nat.{mul-div-le, mul-le-mul_left, le_trans}
use mathlib.Core.Path.{◌≡◌, refl, ◌∙◌}
use mathlib.Core.Bool.{Bool, true, false}
use mathlib.Core.List.{List, [], ◌∷◌}
use lib.ListN.{length, length-append}
use Rattle.model.specs.Limits.{most_lines}
use Rattle.job.specs.Job.{bytes_of, header_length, set_length, line_length, file_length}
use Rattle.job.specs.Job.{header_of, bytes_of_lines, file_of, version_in, rack_in, GoodStart}
use Rattle.job.proofs.HeaderLaws.{length-header_of}
use Rattle.job.proofs.Lines.{file_few, length-bytes_of_lines}
use Rattle.mend_rules.specs.Mending.{noted, changes, read_count, read_lines, lines_kept_in, mended_file, whole_file, recounted}
use Rattle.mend_rules.specs.Mending.{has_more_bytes, changes_in, bytes_of_changes, mended_report}
use Rattle.mend_rules.proofs.Changes.{length-changes}
use Rattle.mend_rules.proofs.Files.{read_few, length-read_lines, kept_few}

-- the report has three bytes for each change
pub length_report : (cs : List (ℕ × ℕ)) → length (bytes_of_changes cs) ≡ 3 * length cs
unfolding bytes_of_changes bytes_of
length_report [] = refl
length_report (c ∷ cs) = omega (arith, length_report cs)

module _ (file : List ℕ) where
  -- the report has at most 3,081 bytes: two changes a line, one more for the total, and two for the file
  pub report_bound : length (mended_report file) ≤ 3 * (2 * read_count file + 3)
  unfolding changes_in
  report_bound =
      let of_lines = changes (rack_in file) 0 0 (read_lines file) in
      let of_file : List (ℕ × ℕ) = noted (recounted file) (whole_file, 5) (noted (has_more_bytes file) (whole_file, 6) []) in
      let k : length (changes_in file) ≡ length of_lines + length of_file = length-append of_lines of_file in
      omega (
        arith,
        length_report (changes_in file),
        k,
        length-changes (rack_in file) 0 0 (read_lines file),
        length-read_lines file,
        two (recounted file) (has_more_bytes file),
      )
    where
      two : (a b : Bool) → length {A = ℕ × ℕ} (noted a (whole_file, 5) (noted b (whole_file, 6) [])) ≤ 2
      two true true = omega arith
      two true false = omega arith
      two false true = omega arith
      two false false = omega arith

  pub length_mended : length (mended_file file) ≡ file_length (version_in file) (length (lines_kept_in file))
  unfolding mended_file file_of
  length_mended =
      let v = version_in file in
      let lines = lines_kept_in file in
      let head = header_of v (rack_in file) (length lines) in
      length-append head (bytes_of_lines v lines) ∙ omega (arith, length-header_of v (rack_in file) (length lines), length-bytes_of_lines v lines)

  -- the lines read are in the file
  pub read_whole : GoodStart file → file_length (version_in file) (read_count file) ≤ length file
  unfolding read_count
  read_whole g =
      let L = line_length (version_in file) in
      let k : read_count file ≤ (length file - header_length) / L = omega arith in
      omega (arith, g.long, mul-le-mul_left L k, mul-div-le (length file - header_length) L)

  -- the mended file is not longer than the file
  pub mended_shorter : GoodStart file → length (mended_file file) ≤ length file
  mended_shorter g = omega (arith, length_mended, mul-le-mul_left (line_length (version_in file)) (kept_few file), read_whole g)

  -- and has at most 4,616 bytes
  pub mended_bound : length (mended_file file) ≤ header_length + (set_length + 1) * most_lines
  mended_bound = omega (arith, length_mended, file_few (version_in file) (length (lines_kept_in file)) (le_trans (kept_few file) (read_few file)))
