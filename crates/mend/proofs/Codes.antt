-- The codes of a line by their tests: how many there are, and their part of the report, one after the other.
use Prim.Native.Nat.{ℕ, ◌+◌, ◌/◌, ◌%◌}
use native.Mathlib.Omega.{arith}
use native.Mathlib.Nat.{div-one}
use mathlib.Core.Path.{◌≡◌, refl, ap, ◌∙◌}
use mathlib.Core.Bool.{Bool, true, false, cond}
use mathlib.Core.List.{List, [], ◌∷◌, ◌++◌, append_assoc}
use lib.ListN.{length}
use Rattle.job.specs.Job.{bytes_of, JobLine}
use Rattle.mend_rules.specs.Mending.{noted, is_cleared, is_emptied, is_raised, is_dropped, codes, on_line, whole_file, recounted, has_more_bytes}
use Rattle.mend_rules.specs.Mending.{changes_in, bytes_of_changes, mended_report}
use Rattle.mend_rules.proofs.Steps.{report_append}
use Rattle.mend.specs.Mend.{line_changes, change, whole_report}

-- one more where the test passes
pub length-noted : {A : Type 0} (b : Bool) (x : A) (xs : List A) → length (noted b x xs) ≡ cond b 1 0 + length xs
length-noted true x xs = omega arith
length-noted false x xs = omega arith

-- as many codes as tests pass
pub codes_count : (m t : ℕ) (l : JobLine)
    → length (codes m t l) ≡ cond (is_cleared m t l.tips) 1 0 + cond (is_emptied m t l) 1 0 + cond (is_raised m t l) 1 0 + cond (is_dropped m t l) 1 0
unfolding codes
codes_count m t l =
    let d : List ℕ = noted (is_dropped m t l) 4 [] in
    let r : List ℕ = noted (is_raised m t l) 3 d in
    let e : List ℕ = noted (is_emptied m t l) 2 r in
    omega (
      arith,
      length-noted (is_cleared m t l.tips) 1 e,
      length-noted (is_emptied m t l) 2 r,
      length-noted (is_raised m t l) 3 d,
      length-noted {A = ℕ} (is_dropped m t l) 4 [],
    )

-- the report of a change behind its test, and of the changes after it
report_noted : (b : Bool) (i k : ℕ) (cs : List ℕ) → bytes_of_changes (on_line i (noted b k cs)) ≡ change b i k ++ bytes_of_changes (on_line i cs)
unfolding bytes_of_changes bytes_of
report_noted true i k cs = refl
report_noted false i k cs = refl

-- the report of a line's codes is that of each, one after the other
codes_report : (m t i : ℕ) (l : JobLine)
    → bytes_of_changes (on_line i (codes m t l))
    ≡ change (is_cleared m t l.tips) i 1 ++ change (is_emptied m t l) i 2 ++ change (is_raised m t l) i 3 ++ change (is_dropped m t l) i 4
unfolding codes
codes_report m t i l =
    let a = is_cleared m t l.tips in
    let b = is_emptied m t l in
    let c = is_raised m t l in
    let d = is_dropped m t l in
    let d' : List ℕ = noted d 4 [] in
    let c' : List ℕ = noted c 3 d' in
    report_noted a i 1 (noted b 2 c')
    ∙ ap (λ x. change a i 1 ++ x) (report_noted b i 2 c')
    ∙ ap (λ x. change a i 1 ++ (change b i 2 ++ x)) (report_noted c i 3 d')
    ∙ ap (λ x. change a i 1 ++ (change b i 2 ++ (change c i 3 ++ x))) (last d)
    ∙ simp append_assoc
  where
    last : (b : Bool) → bytes_of_changes (on_line i (noted b 4 [])) ≡ change b i 4
    last true = refl
    last false = refl

-- by tests that are known by equations
pub codes-told : (m t i : ℕ) (l : JobLine) {a b c d : Bool} → a ≡ is_cleared m t l.tips → b ≡ is_emptied m t l → c ≡ is_raised m t l
    → d ≡ is_dropped m t l → bytes_of_changes (on_line i (codes m t l)) ≡ change a i 1 ++ change b i 2 ++ change c i 3 ++ change d i 4
codes-told m t i l e f g h = rw (e, f, g, h) (codes_report m t i l)

-- the bytes of a change that was made
pub change_made : (b : Bool) (i k : ℕ) → b ≡ true → change b i k ≡ (i / 256 % 256) ∷ (i % 256) ∷ (k % 256) ∷ []
unfolding bytes_of_changes bytes_of
change_made b i k e = simp (e, div-one)

-- and of one that was not
pub change-none : (b : Bool) (i k : ℕ) → b ≡ false → change b i k ≡ []
unfolding bytes_of_changes
change-none b i k e = rw e

-- the report of two changes of one line, each behind its test
two-changes : (a b : Bool) (i j k : ℕ) → bytes_of_changes (noted a (i, j) (noted b (i, k) [])) ≡ change a i j ++ change b i k
unfolding bytes_of_changes bytes_of
two-changes true b i j k = refl
two-changes false b i j k = refl

-- the report of a file: the changes of its lines, and the two of the file
pub report_parts : (file : List ℕ) → mended_report file ≡ bytes_of_changes (line_changes file) ++ whole_report file
unfolding changes_in
report_parts file =
    report_append (line_changes file) _
    ∙ ap (λ l. bytes_of_changes (line_changes file) ++ l) (two-changes (recounted file) (has_more_bytes file) whole_file 5 6)
