-- The report of a file lists exactly the changes made, in order.
use Prim.Native.Nat.{ℕ, ◌+◌, ◌*◌, ◌≤◌, ◌<◌}
use native.Mathlib.Omega.{arith}
use mathlib.Core.Path.{◌≡◌, refl, ap₂}
use mathlib.Core.Logic.{◌↔◌, ◌⊎◌, inl, inr, ⊎_elim}
use mathlib.Core.Bool.{Bool, true, false}
use mathlib.Core.List.Memᴰ
use mathlib.Core.List.{List, [], ◌∷◌, map, map-append, Memᴰ}
use lib.ListN.{length, take}
use lib.Dec.{T, T_not, not_T, eqb, ltb→lt, lt→ltb, eqb→eq, eqb_refl}
use Rattle.model.specs.Count.{All, none, more}
use Rattle.model.proofs.Tests.{le_or_lt}
use Rattle.model.proofs.Lists.{all_map, all-mapped}
use Rattle.model.specs.Limits.{most_placements}
use Rattle.model.proofs.Append.{all_append}
use Rattle.job.specs.Job.{bytes_of, rack_in, count_in}
use Rattle.mend_rules.specs.Mending.{after, noted, codes, running, changes, read_count, read_lines, lines_kept_in, whole_file, recounted}
use Rattle.mend_rules.specs.Mending.{has_more_bytes, changes_in, bytes_of_changes, mended_report}
use Rattle.mend_rules.specs.Rules.{placements_of, mended_lines, read_line, placed, changes_told, Told, Rising, end, first, place, ExactReport}
use Rattle.mend_rules.proofs.Rising.{rising_append}
use Rattle.mend_rules.proofs.Codes.{noted_here, noted_later, noted-all, all_mem, code_cleared, code_emptied, code_raised, code_dropped}
use Rattle.mend_rules.proofs.Changes.{changes_iff, changes_range, changes_rising}
use Rattle.mend_rules.proofs.Steps.{running_more, running-placed, running_passed}
use Rattle.mend_rules.proofs.Files.{read_few, length-read_lines}

module _ (file : List ℕ) where
  -- the changes of the lines, and those of the whole file
  abbrev of_lines : List (ℕ × ℕ)
  of_lines = changes (rack_in file) 0 0 (read_lines file)

  abbrev of_file : List (ℕ × ℕ)
  of_file = noted (recounted file) (whole_file, 5) (noted (has_more_bytes file) (whole_file, 6) [])

  -- the running total before line n
  abbrev before : ℕ → ℕ
  before n = running (rack_in file) 0 (take n (read_lines file))

  lines-below : All (λ c. (c.0 < read_count file) × (1 ≤ c.1) × (c.1 ≤ 4)) of_lines
  lines-below = all_map (λ c h. omega (arith, h, length-read_lines file)) (changes_range (rack_in file) 0 0 (read_lines file))

  file-all : {P : ℕ × ℕ → Type 0} → (T (recounted file) → P (whole_file, 5)) → (T (has_more_bytes file) → P (whole_file, 6)) → All P of_file
  file-all p q = noted-all (recounted file) (whole_file, 5) p (noted-all (has_more_bytes file) (whole_file, 6) q none)

  split : (n c : ℕ) → Told n c (changes_in file) → Told n c of_lines ⊎ Told n c of_file
  unfolding changes_in
  split n c h = Memᴰ.append_cases of_lines h

  -- where a change is
  of-file : (n c : ℕ) → Told n c of_file → (n ≡ whole_file) × (((c ≡ 5) × T (recounted file)) ⊎ ((c ≡ 6) × T (has_more_bytes file)))
  of-file n c h = all_mem (file-all {P = λ d. (d.0 ≡ whole_file) × (((d.1 ≡ 5) × T (recounted file)) ⊎ ((d.1 ≡ 6) × T (has_more_bytes file)))}
      (λ t. (refl, inl (refl, t))) (λ t. (refl, inr (refl, t)))) h

  of-lines : (n c : ℕ) → Told n c of_lines → (n < read_count file) × (1 ≤ c) × (c ≤ 4)
  of-lines n c h = all_mem lines-below h

  -- a change with a code of at most 4 is one of line n
  in_lines : (n c : ℕ) → c ≤ 4
      → Told n c (changes_in file) ↔ ((n < read_count file) × Memᴰ c (codes (rack_in file) (before n) (read_line file n)))
  unfolding changes_in
  in_lines n c l =
      let iff = changes_iff (rack_in file) (read_lines file) n c in
      let k = length-read_lines file in (
        λ h.
            ⊎_elim (λ a. let (u, x) = iff.0 a in (omega (arith, u, k), x))
            (λ b. absurd (⊎_elim (λ x. omega (arith, x.0)) (λ x. omega (arith, x.0)) (of-file n c b).1))
            (split n c h),
        λ (u, x). Memᴰ.append_left of_file (iff.1 (omega (arith, u, k), x)),
      )

  -- the running total is within 2,048 exactly where that of all mended lines is
  within_iff : (n : ℕ) → (before n ≤ most_placements) ↔ (placed file n ≤ most_placements)
  unfolding placed
  within_iff n =
      let m = rack_in file in
      let lines = take n (read_lines file) in (
        λ h. ⊎_elim (λ l. l) (λ l. absurd (omega (arith, running_passed m 0 lines (omega arith))))
            (le_or_lt (placements_of (mended_lines m lines)) most_placements),
        λ h. omega (arith, running-placed m 0 lines (omega arith)),
      )

  passed_iff : (n : ℕ) → n < read_count file
      → (most_placements < after (rack_in file) (before n) (read_line file n)) ↔ (most_placements < placed file (n + 1))
  passed_iff n h =
      let e = running_more (rack_in file) (read_lines file) n (omega (arith, length-read_lines file)) in
      let iff = within_iff (n + 1) in (
        λ k. ⊎_elim (λ l. absurd (omega (arith, e, iff.1 l))) (λ l. l) (le_or_lt (placed file (n + 1)) most_placements),
        λ k. ⊎_elim (λ l. absurd (omega (arith, iff.0 l))) (λ l. omega (arith, e)) (le_or_lt (before (n + 1)) most_placements),
      )

  -- a change with code 5 or 6 is one of the file
  count_iff : (n : ℕ) → Told n 5 (changes_in file) ↔ ((n ≡ whole_file) × T (recounted file))
  unfolding changes_in
  count_iff n = (
    λ h.
        ⊎_elim (λ a. absurd (omega (arith, of-lines n 5 a)))
        (λ b. let (e, r) = of-file n 5 b in (e, ⊎_elim (λ x. x.1) (λ x. absurd (omega (arith, x.0))) r))
        (split n 5 h),
    λ (e, t). rw e (Memᴰ.append_right of_lines (noted_here (recounted file) (whole_file, 5) _ t)),
  )

  more_iff : (n : ℕ) → Told n 6 (changes_in file) ↔ ((n ≡ whole_file) × T (has_more_bytes file))
  unfolding changes_in
  more_iff n = (
    λ h.
        ⊎_elim (λ a. absurd (omega (arith, of-lines n 6 a)))
        (λ b. let (e, r) = of-file n 6 b in (e, ⊎_elim (λ x. absurd (omega (arith, x.0))) (λ x. x.1) r))
        (split n 6 h),
    λ (e, t). rw e (Memᴰ.append_right of_lines (noted_later (recounted file) (whole_file, 5) (whole_file, 6) _
        (noted_here (has_more_bytes file) (whole_file, 6) [] t))),
  )

  file_rising : Rising (map place of_file)
  file_rising = by (recounted file) (has_more_bytes file)
    where
      by : (a b : Bool) → Rising (map place (noted a (whole_file, 5) (noted b (whole_file, 6) [])))
      by true true = first {x = place (whole_file, 5)} (more {x = place (whole_file, 6)} (omega arith) none) (first none end)
      by true false = first none end
      by false true = first none end
      by false false = end

  in_order : Rising (map place (changes_in file))
  unfolding changes_in
  in_order =
      rw map-append
      (rising_append (256 * whole_file)
      (changes_rising (rack_in file) 0 0 (read_lines file))
      (all-mapped place (all_map (λ c h. omega (arith, h, read_few file)) lines-below))
      file_rising
      (all-mapped place (file-all (λ _. omega arith) (λ _. omega arith))))

  -- the report lists exactly the changes made
  pub report_exact : ExactReport file (length (lines_kept_in file)) (changes_in file)
  report_exact =
      let m = rack_in file in
      let written = length (lines_kept_in file) in
      let found = count_in file in
      record {
        cleared = λ n. let iff = code_cleared m (before n) (read_line file n) in let at = in_lines n 1 (omega arith) in (
          λ h. let (u, x) = at.0 h in let (k, d) = iff.0 x in ((u, (within_iff n).0 k), d),
          λ (r, d). at.1 (r.0, iff.1 ((within_iff n).1 r.1, d)),
        );
        emptied = λ n. let iff = code_emptied m (before n) (read_line file n) in let at = in_lines n 2 (omega arith) in (
          λ h. let (u, x) = at.0 h in let (k, d) = iff.0 x in ((u, (within_iff n).0 k), d),
          λ (r, d). at.1 (r.0, iff.1 ((within_iff n).1 r.1, d)),
        );
        raised = λ n. let iff = code_raised m (before n) (read_line file n) in let at = in_lines n 3 (omega arith) in (
          λ h. let (u, x) = at.0 h in let (k, d, e) = iff.0 x in ((u, (within_iff n).0 k), d, e),
          λ (r, d, e). at.1 (r.0, iff.1 ((within_iff n).1 r.1, d, e)),
        );
        dropped = λ n. let iff = code_dropped m (before n) (read_line file n) in let at = in_lines n 4 (omega arith) in (
          λ h. let (u, x) = at.0 h in (u, (passed_iff n u).0 (iff.0 x)),
          λ (u, k). at.1 (u, iff.1 ((passed_iff n u).1 k)),
        );
        recounted = λ n. (
          λ h. let (e, t) = (count_iff n).0 h in (e, λ q. T_not (eqb written found) t (rw q (eqb_refl found))),
          λ (e, d). (count_iff n).1 (e, not_T (eqb written found) (λ t. d (eqb→eq written found t))),
        );
        has_more = λ n. (
          λ h. let (e, t) = (more_iff n).0 h in (e, ltb→lt _ _ t),
          λ (e, l). (more_iff n).1 (e, lt→ltb _ _ l),
        );
        codes = λ n c h.
            ⊎_elim (λ a. omega (arith, of-lines n c a)) (λ b. ⊎_elim (λ x. omega (arith, x.0)) (λ x. omega (arith, x.0)) (of-file n c b).1)
            (split n c h);
        in_order = in_order;
      }

  -- each change fits into three bytes
  changes_fit : All (λ c. (c.0 < 65536) × (c.1 < 256)) (changes_in file)
  unfolding changes_in
  changes_fit = all_append (all_map (λ c h. omega (arith, h, read_few file)) lines-below) (file-all (λ _. omega arith) (λ _. omega arith))

-- ---- the bytes of the report

-- they tell the changes
told_back : {cs : List (ℕ × ℕ)} → All (λ c. (c.0 < 65536) × (c.1 < 256)) cs → changes_told (bytes_of_changes cs) ≡ cs
unfolding changes_told bytes_of_changes bytes_of
told_back none = refl
told_back (more {x = c} h hs) = ap₂ ◌∷◌ (ap₂ (λ n k. (n, k)) (omega (arith, h)) (omega (arith, h))) (told_back hs)

pub report_told : (file : List ℕ) → changes_told (mended_report file) ≡ changes_in file
report_told file = told_back (changes_fit file)
