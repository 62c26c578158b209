-- The mended file: it is read, a file that reading accepts comes back the same, and mending twice adds nothing.
use Prim.Native.Nat.{ℕ, ◌*◌, ◌-◌, ◌/◌, ◌≤◌, ◌<◌}
use native.Mathlib.Omega.{arith}
use native.Mathlib.Nat.{mul-div_cancel_left}
use mathlib.Core.Path.{◌≡◌, ap, ◌∙◌}
use mathlib.Core.Logic.{◌⊎◌, inl, inr}
use mathlib.Core.List.{List, [], append-nil}
use lib.ListN.{length, length-map}
use borrow.Author.Tests.{le-ltb, eq-eqb}
use Rattle.model.specs.Count.{All}
use Rattle.model.specs.Limits.{most_lines, most_placements}
use Rattle.model.proofs.Lists.{all-mapped}
use Rattle.placements.specs.Good.{GoodLines}
use Rattle.job.specs.Job.{Bytes, header_length, line_length, file_length, file_of, version_in, rack_in, count_in}
use Rattle.job.specs.Job.{sets_in, quantities_in, read_refusal, GoodStart, GoodHeader, ReadsAs}
use Rattle.job.proofs.HeaderLaws.{version_back}
use Rattle.job.proofs.Lines.{paired_again, paired_quantities, line_long, Held}
use Rattle.job.proofs.Reading.{read_iff}
use Rattle.job.proofs.Writing.{reads_as, form_again}
use Rattle.mend_rules.specs.Mending.{lines_in, kept, changes, read_count, read_lines}
use Rattle.mend_rules.specs.Mending.{lines_kept_in, mended_file, changes_in, bytes_of_changes, mended_report}
use Rattle.mend_rules.specs.Rules.{sets_of, quantities_of, placements_of, lines_within}
use Rattle.mend_rules.proofs.Lines.{GoodLine, good-lines, lines_good, length-lines_in, lines-held, all_lines, bytes_file_of}
use Rattle.mend_rules.proofs.Kept.{kept_good, kept-fits, length-kept, kept-within, kept_same, kept_is}
use Rattle.mend_rules.proofs.Changes.{changes-none}

module _ (file : List ℕ) where
  -- the lines read are at most 512
  pub read_few : read_count file ≤ most_lines
  unfolding read_count
  read_few = omega arith

  pub length-read_lines : length (read_lines file) ≡ read_count file
  length-read_lines = length-lines_in file (read_count file)

  pub kept_few : length (lines_kept_in file) ≤ read_count file
  kept_few = omega (arith, length-kept (rack_in file) 0 (read_lines file), length-read_lines)

  module _ (g : GoodStart file) (h : Bytes file) where
    good : GoodLines (rack_in file) (quantities_of (lines_kept_in file)) (sets_of (lines_kept_in file))
    good =
        good-lines (kept_good (rack_in file) 0 (read_lines file)) g.rack_low g.rack_high (omega (arith, kept_few, read_few))
        (omega (arith, kept-within (rack_in file) 0 (read_lines file) (omega arith)))

    held : All (Held (version_in file)) (quantities_of (lines_kept_in file))
    held = all-mapped (λ l. l.quantity) (kept-fits (rack_in file) (version_in file) 0 (lines-held file (read_count file) h))

    -- the mended file is read, and its lines are those kept
    mended_reads : ReadsAs (rack_in file) (quantities_of (lines_kept_in file)) (sets_of (lines_kept_in file)) (mended_file file)
    unfolding mended_file
    mended_reads =
        rw (paired_again (lines_kept_in file)) at
        (reads_as (version_in file) (rack_in file) (quantities_of (lines_kept_in file)) (sets_of (lines_kept_in file)) g.versioned good held)

    -- they are the mended lines that are not left empty, up to the first with which the total passes
    pub mended-lines : let lines = lines_within (rack_in file) (read_lines file) in
        ReadsAs (rack_in file) (quantities_of lines) (sets_of lines) (mended_file file)
    mended-lines = rw (kept_is (rack_in file) (read_lines file)) at mended_reads

    -- its version is that of the file, and its count the number of lines kept
    pub mended_version : version_in (mended_file file) ≡ version_in file
    unfolding mended_file file_of
    mended_version = version_back (version_in file) (rack_in file) (length (lines_kept_in file)) _ (two g.versioned)
      where
        two : (version_in file ≡ 1) ⊎ (version_in file ≡ 2) → version_in file < 65536
        two (inl e) = omega arith
        two (inr e) = omega arith

    pub mended_count : count_in (mended_file file) ≡ length (lines_kept_in file)
    mended_count = mended_reads.count-is ∙ length-map (lines_kept_in file) (λ l. l.tips)

  -- ---- a file that reading accepts

  module _ (g : GoodHeader file) (good : GoodLines (rack_in file) (quantities_in file) (sets_in file)) where
    all-good : All (GoodLine (rack_in file)) (lines_in file (count_in file))
    all-good = rw (all_lines file) (lines_good good)

    all-within : placements_of (lines_in file (count_in file)) ≤ most_placements
    all-within =
        rw (all_lines file, paired_quantities (sets_in file) (quantities_in file) good.same) good.few

    read_all : read_count file ≡ count_in file
    unfolding read_count
    read_all =
        let v = version_in file in
        let n = count_in file in
        let e : length file - header_length ≡ line_length v * n = omega (arith, g.whole) in
        let q : (length file - header_length) / line_length v ≡ n = ap (λ x. x / line_length v) e ∙
        mul-div_cancel_left n (omega (arith, line_long v)) in
        omega (arith, q, g.few_lines)

    read_same : read_lines file ≡ lines_in file (count_in file)
    read_same = ap (lines_in file) read_all

    kept-all : lines_kept_in file ≡ lines_in file (count_in file)
    kept-all = ap (kept (rack_in file) 0) read_same ∙ kept_same (rack_in file) 0 all-good (omega (arith, all-within))

    -- it has no changes
    accepted_changes : changes_in file ≡ []
    unfolding changes_in
    accepted_changes =
        let v = version_in file in
        let same : length (lines_kept_in file) ≡ count_in file = ap length kept-all ∙ length-lines_in file (count_in file) in
        let whole : length file ≤ file_length v (read_count file) = omega (arith, g.whole, ap (λ n. line_length v * n) read_all) in
        rw (eq-eqb (length (lines_kept_in file)) (count_in file) same, le-ltb (file_length v (read_count file)) (length file) whole)
        (append-nil _ ∙ ap (changes (rack_in file) 0 0) read_same ∙ changes-none (rack_in file) 0 0 all-good (omega (arith, all-within)))

    -- it comes back the same, with an empty report
    unchanged : Bytes file → mended_file file ≡ file
    unfolding mended_file
    unchanged h = ap (file_of (version_in file) (rack_in file)) (kept-all ∙ all_lines file) ∙ form_again file h g

    unreported : mended_report file ≡ []
    unfolding bytes_of_changes
    unreported = ap bytes_of_changes accepted_changes

  pub accepted_same : (read_refusal file).number ≡ 0 → Bytes file → (mended_file file ≡ file) × (mended_report file ≡ [])
  accepted_same e h = let (g, good) = (read_iff file).0 e in (unchanged g good h, unreported g good)

-- mending the mended file gives it again, with an empty report
pub mended_again : (file : List ℕ) → GoodStart file → Bytes file
    → (mended_file (mended_file file) ≡ mended_file file) × (mended_report (mended_file file) ≡ [])
mended_again file g h =
    accepted_same (mended_file file) (ap (λ r. r.number) (mended_reads file g h).accepted)
    (unfold mended_file in bytes_file_of (version_in file) (rack_in file) (lines_kept_in file))
