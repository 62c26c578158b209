-- The refusal of reading a file is the one that its cases tell.
use Prim.Native.Nat.{ℕ, suc, ◌≤◌, ◌<◌}
use native.Mathlib.Omega.{arith}
use mathlib.Core.Path.{◌≡◌, refl, sym, ap, subst, ◌∙◌}
use mathlib.Core.Logic.{◌↔◌, ◌⊎◌, inl, inr, ⊎_elim}
use mathlib.Core.Bool.{Bool, true, false, not, cond, ◌||◌}
use mathlib.Core.List.{List, [], ◌∷◌}
use lib.Dec.{T, T_not, not_T, ltb, eqb, eqb→eq}
use lib.ListN.{length, get_or, take}
use borrow.Author.Tests.{lt-ltb, le-ltb}
use Rattle.model.specs.Limits.{most_lines, most_placements}
use Rattle.model.specs.Plan.{rack_ok}
use Rattle.model.proofs.Tests.{le_or_lt}
use Rattle.model.proofs.Fails.{fails_first, fails_most}
use Rattle.placements.specs.Repeated.{total}
use Rattle.placements.proofs.Totals.{at-over}
use Rattle.job.specs.Job.{header_length, mark, file_length, mark_in, version_in, rack_in, count_in, set_in, quantity_in, quantities_in}
use Rattle.job.specs.Job.{version_ok, start_number, size_number, header_number, line_number, line_numbers, read_refusal}
use Rattle.job.proofs.Reading.{length-quantities_in, length_numbers, number-there, bad_in, over_in, bad_number}
use Rattle.refusal.specs.Refusal.{none, refuse, refuse_at, or_else, when, scan}
use Rattle.refusal.specs.declared.Reason.{Reason}
use Rattle.refusal.specs.declared.Reason.TheVariants.{RackSize, EmptyLine, TipOutside, ShortFile, WrongMark, WrongVersion, FileLines}
use Rattle.refusal.specs.declared.Reason.TheVariants.{FileLength, ZeroQuantity, TooManyPlacements}
use Rattle.cases.specs.Cases.{Case, Told, NoCase, Nowhere, First, plain, placed}
use Rattle.cases.proofs.Laws.{told_or, told_when, told_at, told_none}
use Rattle.call_cases.specs.State.{HasOutside, line_cases}
use Rattle.call_cases.specs.Reading.{BadLine, NoneBefore, start_cases, header_cases, bad_cases, read_cases}
use Rattle.call_cases.proofs.Tests.{less_iff, unlike_iff, size_iff, over_first}
use Rattle.call_cases.proofs.Calls.{line_told}

version_iff : (v : ℕ) → T (not (version_ok v)) ↔ ((v ≡ 1) ⊎ (v ≡ 2) → ⊥)
unfolding version_ok
version_iff v = (
  λ n. ⊎_elim (λ e. T_not (version_ok v) n (rw e tt)) (λ e. T_not (version_ok v) n (rw e tt)),
  λ f. not_T (version_ok v) (λ t. f (by (eqb v 1) refl t)),
)
  where
    by : (b : Bool) → eqb v 1 ≡ b → T (b || eqb v 2) → (v ≡ 1) ⊎ (v ≡ 2)
    by true e t = inl (eqb→eq v 1 (rw e tt))
    by false e t = inr (eqb→eq v 2 t)

-- numbers in order are decisions in order
starts : (a b c d : Bool)
    → or_else (when a 6) (or_else (when b 7) (or_else (when c 8) (when d 1))) ≡ refuse (cond a 6 (cond b 7 (cond c 8 (cond d 1 0))))
unfolding or_else
starts true b c d = refl
starts false true c d = refl
starts false false true d = refl
starts false false false true = refl
starts false false false false = refl

sizes : (a b : Bool) → or_else (when a 9) (when b 10) ≡ refuse (cond a 9 (cond b 10 0))
unfolding or_else
sizes true b = refl
sizes false true = refl
sizes false false = refl

both : (x y : ℕ) → or_else (refuse x) (refuse y) ≡ refuse (cond (eqb x 0) y x)
unfolding or_else
both x y = by (eqb x 0)
  where
    by : (b : Bool) → cond b (refuse y) (refuse x) ≡ refuse (cond b y x)
    by true = refl
    by false = refl

module _ (file : List ℕ) where
  -- 6, 7, 8 and 1
  pub start_told : Told (start_cases file) (refuse (start_number file))
  unfolding start_number
  start_told =
      let a = ltb (length file) header_length in
      let b = not (eqb (mark_in file) mark) in
      let c = not (version_ok (version_in file)) in
      let d = not (rack_ok (rack_in file)) in
      subst (Told (start_cases file)) (starts a b c d)
      (told_or (when a 6) _ _ _ (told_when ShortFile a (less_iff (length file) header_length)) (λ _.
      told_or (when b 7) _ _ _ (told_when WrongMark b (unlike_iff (mark_in file) mark)) (λ _.
      told_or (when c 8) _ _ _ (told_when WrongVersion c (version_iff (version_in file))) (λ _.
      told_when RackSize d (size_iff (rack_in file))))))

  -- then 9 and 10
  header_told : Told (header_cases file) (refuse (header_number file))
  unfolding header_number size_number
  header_told =
      let n = count_in file in
      let bytes = file_length (version_in file) n in
      let a = ltb most_lines n in
      let b = not (eqb (length file) bytes) in
      let rest = plain FileLines (most_lines < n) ∷ plain FileLength (length file ≡ bytes → ⊥) ∷ [] in
      subst (Told (header_cases file)) (both (start_number file) (size_number file))
      (told_or (refuse (start_number file)) (refuse (size_number file)) (start_cases file) rest start_told (λ _.
      subst (Told rest) (sizes a b)
      (told_or (when a 9) (when b 10) _ _ (told_when FileLines a (less_iff most_lines n)) (λ _.
      told_when FileLength b (unlike_iff (length file) bytes)))))

  -- the number of line i, and its cases
  abbrev number_of : ℕ → ℕ
  number_of i = line_number (rack_in file) (set_in file i) (quantity_in file i)

  abbrev cases_of : ℕ → List Case
  cases_of i = line_cases (rack_in file) (set_in file i) (quantity_in file i)

  line_so : (i : ℕ) → Told (cases_of i) (refuse (number_of i))
  line_so i = line_told (rack_in file) (set_in file i) (quantity_in file i)

  -- a line without a number is not bad
  unbad : (i : ℕ) → number_of i ≡ 0 → BadLine file i → ⊥
  unfolding NoCase
  unbad i z =
      let (a, (b, (c, u))) = told_none (cases_of i) (refuse (number_of i)) (line_so i) z in
      ⊎_elim (λ e. a 0 (refl, e)) (⊎_elim (λ o. b 0 (refl, o)) (λ e. c 0 (refl, e)))

  before_bad : (j : ℕ) → j < bad_in file → BadLine file j → ⊥
  before_bad j l =
      let h : j < count_in file = omega (arith, fails_most (λ n. eqb n 0) (line_numbers file), length_numbers file) in
      unbad j (number-there file j h ∙ eqb→eq _ 0 (fails_first (λ n. eqb n 0) (line_numbers file) j l))

  -- where some line is bad, the first such line is the only one with no bad line before
  only_bad : (i : ℕ) → NoneBefore file i → BadLine file i → BadLine file (bad_in file) → i ≡ bad_in file
  only_bad i b x y =
      ⊎_elim
      (λ l. ⊎_elim (λ k. omega arith) (λ k. absurd (b.good_before (bad_in file) k y)) (le_or_lt i (bad_in file)))
      (λ l. absurd (before_bad i l x))
      (le_or_lt (bad_in file) i)

  -- a sentence of which a line is bad: it holds of no line, or of the first bad line
  module _ (reason : Reason) (P : ℕ → Type 0) (bad : (i : ℕ) → P i → BadLine file i) where
    abbrev at : Case
    at = placed reason (λ i. NoneBefore file i × P i)

    nowhere : BadLine file (bad_in file) → (P (bad_in file) → ⊥) → Nowhere at
    nowhere y n i (b, p) = n (subst P (only_bad i b (bad i p) y) p)

    none_bad : count_in file ≤ bad_in file → Nowhere at
    none_bad l i (b, p) = before_bad i (omega (arith, b.inside)) (bad i p)

    first_bad : bad_in file < count_in file → First (plain reason (P (bad_in file))) (refuse (number_of (bad_in file)))
        → First at (record { number = number_of (bad_in file); place = bad_in file })
    first_bad l a = record {
      number_is = a.number_is;
      here = (record { inside = l; good_before = before_bad }, a.here.1);
      first = λ j k (b, p). before_bad j k (bad j p);
    }

  abbrev Empty : ℕ → Type 0
  Empty i = set_in file i ≡ 0

  abbrev Beyond : ℕ → Type 0
  Beyond i = HasOutside (rack_in file) (set_in file i)

  abbrev Unplaced : ℕ → Type 0
  Unplaced i = quantity_in file i ≡ 0

  empty_bad : (i : ℕ) → Empty i → BadLine file i
  empty_bad i p = inl p

  beyond_bad : (i : ℕ) → Beyond i → BadLine file i
  beyond_bad i p = inr (inl p)

  unplaced_bad : (i : ℕ) → Unplaced i → BadLine file i
  unplaced_bad i p = inr (inr p)

  bad_here : bad_in file < count_in file → (number_of (bad_in file) ≡ 0 → ⊥) → Told (cases_of (bad_in file)) (refuse (number_of (bad_in file)))
      → Told (bad_cases file) (record { number = number_of (bad_in file); place = bad_in file })
  unfolding Told
  bad_here l n (inl a) = inl (first_bad EmptyLine Empty empty_bad l a)
  bad_here l n (inr (x, inl a)) =
      let here = beyond_bad (bad_in file) a.here.1 in
      inr (nowhere EmptyLine Empty empty_bad here (λ e. x 0 (refl, e)), inl (first_bad TipOutside Beyond beyond_bad l a))
  bad_here l n (inr (x, inr (y, inl a))) =
      let here = unplaced_bad (bad_in file) a.here.1 in
      inr (
        nowhere EmptyLine Empty empty_bad here (λ e. x 0 (refl, e)),
        inr (nowhere TipOutside Beyond beyond_bad here (λ o. y 0 (refl, o)), inl (first_bad ZeroQuantity Unplaced unplaced_bad l a)),
      )
  bad_here l n (inr (x, inr (y, inr (w, e)))) = absurd (n (ap (λ r. r.number) e))

  bad_none : count_in file ≤ bad_in file → Told (bad_cases file) none
  unfolding Told
  bad_none l =
      let unplaced = none_bad ZeroQuantity Unplaced unplaced_bad l in
      inr (none_bad EmptyLine Empty empty_bad l, inr (none_bad TipOutside Beyond beyond_bad l, inr (unplaced, refl)))

  bad_told : Told (bad_cases file) (scan (λ n. eqb n 0) (λ i. get_or (line_numbers file) i 0) (line_numbers file))
  unfolding scan
  bad_told = ⊎_elim past here (le_or_lt (length (line_numbers file)) (bad_in file))
    where
      size : ℕ
      size = length (line_numbers file)

      Tells : Type 0
      Tells = Told (bad_cases file) (refuse_at (get_or (line_numbers file) (bad_in file) 0) (bad_in file) size)

      past : size ≤ bad_in file → Tells
      past l = rw (le-ltb (bad_in file) (length (line_numbers file)) l) (bad_none (omega (arith, length_numbers file)))

      here : bad_in file < size → Tells
      here l =
          let h : bad_in file < count_in file = omega (arith, length_numbers file) in
          let e = number-there file (bad_in file) h in
          rw (lt-ltb (bad_in file) (length (line_numbers file)) l, ← e)
          (bad_here h (λ z. bad_number file h (sym e ∙ z)) (line_so (bad_in file)))

  over_told : Told (placed TooManyPlacements (λ i. (i < count_in file) × (most_placements < total (take (suc i) (quantities_in file)))) ∷ [])
      (refuse_at 30 (over_in file) (count_in file))
  over_told =
      told_at TooManyPlacements (over_in file) (count_in file)
      (λ l. (l, at-over most_placements (quantities_in file) (omega (arith, length-quantities_in file))))
      (λ j (l, h). (l, over_first (quantities_in file) j h))

  -- THE REFUSAL OF READING is the one that its cases tell
  pub read_told : Told (read_cases file) (read_refusal file)
  unfolding read_refusal
  read_told =
      let header = refuse (header_number file) in
      let bad = scan (λ n. eqb n 0) (λ i. get_or (line_numbers file) i 0) (line_numbers file) in
      let over = refuse_at 30 (over_in file) (count_in file) in
      told_or header (or_else bad over) _ _ header_told (λ _. told_or bad over _ _ bad_told (λ _. over_told))
