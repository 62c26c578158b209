-- Version 1 as before: lines of quantity 1 are written as they were, and a file without quantities is read as it was.
use Prim.Native.Nat.{ℕ, ◌+◌, ◌*◌, ◌≤◌, ◌<◌}
use native.Mathlib.Omega.{arith}
use mathlib.Core.Path.{◌≡◌, refl, sym, ap, ap₂, ◌∙◌}
use mathlib.Core.Logic.{⊎_elim}
use mathlib.Core.Bool.{Bool, true, false, not, cond, ◌&&◌, or-false}
use mathlib.Core.List.{List, [], ◌∷◌, ◌++◌, map, append-nil}
use lib.Dec.{ltb, eqb}
use lib.ListN.{length, get_or, length-map}
use lib.Seq.{ext_get_or}
use Rattle.model.specs.Count.{All, first_fail}
use Rattle.model.specs.Plan.{is_empty, in_rack, is_domain, rack_ok}
use Rattle.model.specs.Limits.{most_lines}
use Rattle.model.proofs.Tests.{le_or_lt}
use Rattle.model.proofs.Lists.{all, get_d_map, fail_map, fail_cong}
use Rattle.model.proofs.ListOf.{list_of_cong}
use Rattle.model.proofs.Fails.{none_fails}
use Rattle.refusal.specs.Told.{Refusal}
use Rattle.refusal.specs.Refusal.{refuse, scan}
use Rattle.refusal.proofs.Laws.{or_first, or_next, scan_passes, scan-at}
use Rattle.job.specs.Job.{bytes_of, mark, header_length, set_length, counted, line_length, paired, line_of, bytes_of_lines, file_of, header_of}
use Rattle.job.specs.Job.{written_of, number_at, mark_in, version_in, rack_in, count_in, set_in, sets_in, quantities_in, version_ok}
use Rattle.job.specs.Job.{start_number, size_number, header_number, line_number, line_numbers, read_refusal}
use Rattle.job.specs.Before.{bytes_of_sets, plain_file_of, plain_sets_in, plain_header_number, set_number, plain_refusal}
use Rattle.job.proofs.HeaderLaws.{header_good}
use Rattle.job.proofs.Lines.{length-paired}
use Rattle.job.proofs.Reading.{length-sets_in, length-quantities_in, length_numbers, set_there, number-there, plain-total, bad_in, over_in}
use Rattle.job.proofs.Reading.{within-total, read_refused, read_bad, read_within}
use Rattle.job.proofs.Writing.{version_one}

-- ---- writing

lines-before : (sets qs : List ℕ) → length qs ≡ length sets → bytes_of_lines 1 (paired sets qs) ≡ bytes_of_sets sets
unfolding bytes_of_lines paired line_of bytes_of bytes_of_sets
lines-before [] qs e = refl
lines-before (s ∷ sets) [] e = absurd (omega arith)
lines-before (s ∷ sets) (q ∷ qs) e = ap₂ ◌++◌ (append-nil (bytes_of set_length s)) (lines-before sets qs (omega arith))

-- lines of quantity 1 are written as before
pub written-before : (m : ℕ) {qs : List ℕ} → All (λ q. q ≡ 1) qs → (sets : List ℕ) → length qs ≡ length sets
    → written_of m qs sets ≡ plain_file_of m sets
unfolding file_of plain_file_of
written-before m {qs} ones sets e =
    ap (λ v. file_of v m (paired sets qs)) (version_one ones)
    ∙ ap₂ (λ n b. header_of 1 m n ++ b) (length-paired sets qs e) (lines-before sets qs e)

-- a file of either version whose quantities are all 1 is written back in version 1
pub shortened : (file : List ℕ) → All (λ q. q ≡ 1) (quantities_in file)
    → written_of (rack_in file) (quantities_in file) (sets_in file) ≡ plain_file_of (rack_in file) (sets_in file)
shortened file ones = written-before (rack_in file) ones (sets_in file) (length-quantities_in file ∙ sym (length-sets_in file))

-- ---- reading

-- a line of quantity 1 is refused by its set
number-before : (m s : ℕ) → line_number m s 1 ≡ set_number m s
unfolding line_number set_number
number-before m s = by (is_empty s) (in_rack m s)
  where
    by : (a b : Bool) → ◌≡◌ {A = ℕ} (cond a 2 (cond (not b) 3 0)) (cond a 2 (cond b 0 3))
    by true b = refl
    by false true = refl
    by false false = refl

test_before : (m s : ℕ) → eqb (line_number m s 1) 0 ≡ is_domain m s
unfolding line_number is_domain
test_before m s = by (is_empty s) (in_rack m s)
  where
    by : (a b : Bool) → eqb (cond a 2 (cond (not b) 3 0)) 0 ≡ (not a && b)
    by true b = refl
    by false true = refl
    by false false = refl

module _ (file : List ℕ) (plain : counted (version_in file) ≡ false) where
  length_before : line_length (version_in file) ≡ set_length
  unfolding line_length
  length_before = rw plain

  -- the sets are those that were read
  pub sets_before : sets_in file ≡ plain_sets_in file
  unfolding sets_in plain_sets_in
  sets_before = list_of_cong (set_in file) _ (count_in file) (λ i _. ap (λ k. number_at set_length file (header_length + k * i)) length_before)

  -- the refusal by the header is the one that was
  header-before : header_number file ≡ plain_header_number file
  unfolding header_number start_number size_number version_ok plain_header_number
  header-before =
      rw (plain, or-false, length_before)
      (by (ltb (length file) header_length) (eqb (mark_in file) mark) (eqb (version_in file) 1) (rack_ok (rack_in file))
      (cond (ltb most_lines (count_in file)) 9 (cond (not (eqb (length file) (header_length + set_length * count_in file))) 10 0)))
    where
      start : Bool → Bool → Bool → Bool → ℕ → ℕ
      start a b c d z = cond a 6 (cond (not b) 7 (cond (not c) 8 (cond (not d) 1 z)))

      by : (a b c d : Bool) (z : ℕ) → cond (eqb (start a b c d 0) 0) z (start a b c d 0) ≡ start a b c d z
      by true b c d z = refl
      by false false c d z = refl
      by false true false d z = refl
      by false true true false z = refl
      by false true true true z = refl

  -- the refusal of each line is that of its set
  numbers_before : line_numbers file ≡ map (λ s. line_number (rack_in file) s 1) (sets_in file)
  numbers_before =
      let by-set : ℕ → ℕ = λ s. line_number (rack_in file) s 1 in
      let n = length-map (sets_in file) by-set in
      ext_get_or 0 (line_numbers file) (map by-set (sets_in file)) (length_numbers file ∙ sym (n ∙ length-sets_in file))
      (λ i l. let h : i < count_in file = omega (arith, length_numbers file) in
      sym (number-there file i h)
      ∙ rw plain (ap by-set (set_there file i h))
      ∙ sym (get_d_map by-set 0 0 (sets_in file) i (omega (arith, length-sets_in file))))

  bad_before : bad_in file ≡ first_fail (is_domain (rack_in file)) (sets_in file)
  bad_before =
      let m = rack_in file in
      ap (first_fail (λ n. eqb n 0)) numbers_before
      ∙ fail_map (λ n. eqb n 0) (λ s. line_number m s 1) (sets_in file)
      ∙ fail_cong (all (test_before m) (sets_in file))

  -- too few lines to pass the total
  few_before : header_number file ≡ 0 → count_in file ≤ over_in file
  few_before z = (within-total file).1 (omega (arith, (header_good file z).few_lines, plain-total file plain))

  abbrev scanned : Refusal
  scanned = scan (is_domain (rack_in file)) (λ i. set_number (rack_in file) (get_or (sets_in file) i 0)) (sets_in file)

  lines-refused : header_number file ≡ 0 → read_refusal file ≡ scanned
  lines-refused z =
      let m = rack_in file in
      let n = length-sets_in file in
      let number : ℕ → ℕ = λ i. set_number m (get_or (sets_in file) i 0) in
      ⊎_elim
      (λ clean. read_within file z clean (few_before z)
      ∙ sym (scan_passes (is_domain m) number (sets_in file) (none_fails (is_domain m) (sets_in file) (omega (arith, n, bad_before)))))
      (λ l. let s = get_or (sets_in file) (bad_in file) 0 in
      let told = ap (λ l. get_or l (bad_in file) 0) numbers_before
      ∙ get_d_map (λ s. line_number m s 1) 0 0 (sets_in file) (bad_in file) (omega (arith, n)) ∙ number-before m s in
      read_bad file z l
      ∙ ap (λ k. record { number = k; place = bad_in file }) told
      ∙ ap (λ i. record { number = number i; place = i }) bad_before
      ∙ sym (scan-at (is_domain m) number (sets_in file) (omega (arith, n, bad_before))))
      (le_or_lt (count_in file) (bad_in file))

  -- a file without quantities is refused as before
  pub read_before : read_refusal file ≡ plain_refusal file
  unfolding plain_refusal
  read_before =
      rw (← sets_before, ← header-before)
      (⊎_elim
      (λ l. let z : header_number file ≡ 0 = omega arith in
      lines-refused z ∙ or_next {d = refuse (header_number file)} refl scanned z refl)
      (λ l. let h : header_number file ≡ 0 → ⊥ = λ z. omega arith in
      read_refused file h ∙ or_first {d = refuse (header_number file)} refl scanned h)
      (le_or_lt (header_number file) 0))
