-- TODAY'S RULES ARE THE BASE'S for lines of one placement without a mounted tip; those of the best plan where each line is an unbroken run.
use Prim.Native.Nat.{ℕ, zero, suc, ◌+◌, ◌*◌, ◌-◌, ◌/◌, ◌%◌, ◌^◌, ◌≤◌, ◌<◌, max}
use native.Mathlib.Omega.{arith}
use native.Mathlib.Nat.{le_refl, lt_of_lt_of_le}
use mathlib.Core.Path.{◌≡◌, refl, ap, sym, subst, ◌∙◌}
use mathlib.Core.Logic.{⊎_elim}
use mathlib.Core.Bool.{Bool, true, false, not, cond, ◌&&◌, ◌||◌}
use mathlib.Core.List.{List, [], ◌∷◌}
use lib.Dec.{T, T_not, not_T, eqb, eqb→eq}
use lib.ListN.{length}
use lib.Pow.{pow_mono}
use lib.Count.{ones, ones_step, ones-le}
use borrow.Author.Tests.{ne_eqb}
use Rattle.model.specs.Count.{All, count, each, every, list_of, largest, lowest_at}
use Rattle.model.specs.Plan.{has, occ, choose2, Domain}
use Rattle.model.specs.Choice.{bare, choice}
use Rattle.model.specs.CommonTip.{set_of, top, W, margin, covers, narrowed}
use Rattle.model.specs.Greedy.{busiest, rest, rounds, first, quick_tip, quick_plan}
use Rattle.model.specs.Interval.{any, low, high, is_run, lies, inside, split, most_of, C, tip_by, pick_of, best_plan, table}
use Rattle.model.specs.Before.{greatest, lowest_of, highest_of, bits_of, top_before, W_before, margin_before, is_zero, has_all, kept_before}
use Rattle.model.specs.Before.{busiest_before, quick_tip_before, quick_before, low_before, high_before, is_run_before, taken_by, pairs_by}
use Rattle.model.specs.Before.{most_before, C_before, pick_before, best_tip_before, best_before, table_before}
use Rattle.model.proofs.Tests.{le_or_lt, true_T, false_T, eqb_T, same_test, cond_case, every_iff}
use Rattle.model.proofs.Lists.{all, all_map, all_both, all-at, all_get_d, map_cong, each_iff, count_cong}
use Rattle.model.proofs.ListOf.{length-list_of, list_of-at, list_of_cong}
use Rattle.model.proofs.Largest.{largest-first, largest_cong, lowest_lt, lowest-largest, lowest-first}
use Rattle.model.proofs.Sets.{has-digit, digit-has, has-suc, set_of-low}
use Rattle.model.proofs.CommonTip.{margin_pos, margin_neg}
use Rattle.model.proofs.Run.{low_le, le_high, low-high, low-tip, high-tip, high-below}
use Rattle.model.proofs.Most.{most_zero}
use Rattle.model.proofs.AllTips.{most-split}
use Rattle.model.proofs.Best.{C-split, C-any}
use Rattle.model.proofs.Unbroken.{old_pick, old-pick, unbroken_plan}

-- ---- the base's own largest, lowest and highest

pub greatest_is : (f : ℕ → ℕ) (m : ℕ) → greatest f m ≡ largest f m
unfolding greatest largest
greatest_is f zero = refl
greatest_is f (suc m) = ap (max (f 0)) (greatest_is (λ t. f (suc t)) m) ∙ sym (largest-first f m)

pub lowest_of_is : (f : ℕ → Bool) (m i : ℕ) → i < m → T (f i) → ((t : ℕ) → t < i → T (not (f t))) → lowest_of f m ≡ i
unfolding lowest_of
lowest_of_is f zero i l y n = absurd (omega arith)
lowest_of_is f (suc m) zero l y n = rw (true_T (f 0) y)
lowest_of_is f (suc m) (suc i) l y n =
    rw (false_T (f 0) (n 0 (omega arith))) (ap suc (lowest_of_is (λ t. f (suc t)) m i (omega arith) y (λ t h. n (suc t) (omega arith))))

highest_of_is : (f : ℕ → Bool) (m i : ℕ) → i < m → T (f i) → ((t : ℕ) → i < t → t < m → T (not (f t))) → highest_of f m ≡ i
unfolding highest_of
highest_of_is f zero i l y n = absurd (omega arith)
highest_of_is f (suc m) i l y n =
    ⊎_elim
    (λ p. let e : m ≡ i = omega arith in rw (true_T (f m) (rw e y)) e)
    (λ p. rw (false_T (f m) (n m p (omega arith))) (highest_of_is f m i p y (λ t h b. n t h (omega arith))))
    (le_or_lt m i)

-- the lowest number at which a function reaches its largest value
lowest_reached : (f g : ℕ → ℕ) (v m : ℕ) → ((t : ℕ) → t < m → f t ≡ g t) → v ≡ largest g m
    → lowest_of (λ t. eqb (f t) v) m ≡ lowest_at g m
unfolding lowest_of lowest_at
lowest_reached f g v zero same e = refl
lowest_reached f g v (suc n) same e =
    let m = suc n in
    let i = lowest_at g m in
    let l : i < m = lowest_lt g m (omega arith) in
    let top : g i ≡ largest g m = lowest-largest g m (omega arith) in
    lowest_of_is (λ t. eqb (f t) v) m i l (eqb_T (f i) v (same i l ∙ top ∙ sym e))
    (λ t h. not_T (eqb (f t) v) (λ y. omega (arith, eqb→eq (f t) v y, same t (omega arith), lowest-first g m t h)))

bits_are : (f : ℕ → Bool) (m : ℕ) → bits_of f m ≡ set_of f m
unfolding bits_of set_of
bits_are f zero = refl
bits_are f (suc m) = ap (λ n. cond (f 0) 1 0 + 2 * n) (bits_are (λ t. f (suc t)) m) ∙ sym (set_of-low f m)

each_every : (g : ℕ → Bool) (f : ℕ → ℕ) (n : ℕ) → each g (list_of f n) ≡ every (λ k. g (f k)) n
each_every g f n =
    same_test (each g (list_of f n)) (every (λ k. g (f k)) n)
    (λ t. (every_iff (λ k. g (f k)) n).1 (λ k l.
    subst (λ x. T (g x)) (list_of-at f n k l) (all-at 0 ((each_iff g (list_of f n)).0 t) k (omega (arith, length-list_of f n)))))
    (λ t. (each_iff g (list_of f n)).1 (all_get_d 0 (list_of f n) (λ k l.
    let b : k < n = omega (arith, length-list_of f n) in
    subst (λ x. T (g x)) (sym (list_of-at f n k b)) ((every_iff (λ j. g (f j)) n).0 t k b))))

-- ---- common tip and keep

module _ (m : ℕ) (lines : List ℕ) where
  pub top-before : top m lines ≡ top_before m lines
  unfolding top top_before
  top-before = sym (greatest_is (occ lines) m)

  pub W-before : W m lines ≡ W_before m lines
  unfolding W W_before
  W-before = rw top-before (sym (bits_are _ m))

  pub margin-before : (k : ℕ) → margin m lines k ≡ margin_before m lines k
  unfolding margin margin_before
  margin-before k = rw top-before refl

  -- the margin is zero exactly where n = top + k
  margin_zero : (k : ℕ) → is_zero (margin m lines k) ≡ eqb (length lines) (top m lines + k)
  unfolding is_zero
  margin_zero k = ⊎_elim above below (le_or_lt n (top m lines + k))
    where
      n : ℕ
      n = length lines

      above : length lines ≤ top m lines + k → is_zero (margin m lines k) ≡ eqb (length lines) (top m lines + k)
      above h =
          let t = top m lines + k in
          rw (margin_pos m lines k h) (same_test (eqb (t - length lines) 0) (eqb (length lines) t)
          (λ e. eqb_T (length lines) t (omega (arith, eqb→eq (t - length lines) 0 e)))
          (λ e. eqb_T (t - length lines) 0 (omega (arith, eqb→eq (length lines) t e))))

      below : top m lines + k < length lines → is_zero (margin m lines k) ≡ eqb (length lines) (top m lines + k)
      below h = rw (margin_neg m lines k h) (sym (ne_eqb (length lines) (top m lines + k) (λ e. omega arith)))

  all_before : (s w : ℕ) → covers m s w ≡ has_all m s w
  unfolding covers has_all
  all_before s w = sym (each_every (λ t. not (has w t) || has s t) (λ t. t) m)

  -- keep in today's words: at margin zero a set that has all of W keeps only W
  pub kept-before : (k s : ℕ) → cond (eqb (length lines) (top m lines + k)) (narrowed m (W m lines) s) s ≡ kept_before m lines k s
  unfolding narrowed kept_before
  kept-before k s =
      rw (← W-before, ← margin-before k, margin_zero k, ← all_before s (W m lines))
      (both (eqb (length lines) (top m lines + k)) (covers m s (W m lines)))
    where
      both : (x y : Bool) → cond x (cond y (W m lines) s) s ≡ cond (x && y) (W m lines) s
      both true y = refl
      both false y = refl

-- ---- quick sharing

busiest-before : (m : ℕ) (left : List ℕ) → busiest_before m left ≡ busiest bare left m
unfolding busiest_before busiest choice
busiest-before m left = lowest_reached (occ left) (occ left) (greatest (occ left) m) m (λ t l. refl) (greatest_is (occ left) m)

pub quick_tip_is : (k m : ℕ) (left : List ℕ) (s : ℕ) → quick_tip_before k m left s ≡ first (rounds bare k m left) s
unfolding quick_tip_before rounds first
quick_tip_is zero m left s = refl
quick_tip_is (suc k) m [] s = refl
quick_tip_is (suc k) m (x ∷ left) s =
    let t = busiest bare (x ∷ left) m in
    rw (busiest-before m (x ∷ left), quick_tip_is k m (rest (x ∷ left) t) s) refl

pub quick-before : (m : ℕ) (lines : List ℕ) → quick_plan bare m lines ≡ quick_before m lines
unfolding quick_plan quick_tip quick_before
quick-before m lines = map_cong (all (λ s. sym (quick_tip_is (length lines) m lines s)) lines)

-- ---- best sharing

low_digit : (s : ℕ) → cond (has s 0) 1 0 ≡ s % 2
low_digit s =
    cond_case (λ x. x ≡ s % 2) (has s 0)
    (λ h. omega (arith, has-digit s 0 h))
    (λ n. ⊎_elim (λ p. absurd (T_not (has s 0) n (digit-has s 0 (omega arith)))) (λ p. omega arith) (le_or_lt 1 (s % 2)))

-- the number of a set's tips
tips_ones : (n s : ℕ) (g : ℕ → Bool) (f : ℕ → ℕ) → s < 2 ^ n → ((k : ℕ) → g (f k) ≡ has s k) → count g (list_of f n) ≡ ones s
unfolding count list_of
tips_ones zero s g f b h = omega (arith, ones-le 0 s b)
tips_ones (suc n) s g f b h =
    rw (h 0) (omega (arith, low_digit s, ones_step s, tips_ones n (s / 2) g (λ k. f (suc k)) (omega arith) (λ k. h (suc k) ∙ has-suc s k)))

module _ {m s : ℕ} (narrow : m ≤ 64) (d : Domain m s) where
  pub low-before : low_before s ≡ low s
  unfolding low_before
  low-before =
      lowest_of_is (has s) 64 (low s) (omega (arith, low-high narrow d, high-below narrow d)) (low-tip narrow d)
      (λ t l. not_T (has s t) (λ h. omega (arith, low_le s t h)))

  pub high-before : high_before s ≡ high s
  unfolding high_before
  high-before =
      highest_of_is (has s) 64 (high s) (omega (arith, high-below narrow d)) (high-tip narrow d).0
      (λ t l b. not_T (has s t) (λ h. omega (arith, le_high narrow d t h)))

  pub run_before : is_run s ≡ is_run_before s
  unfolding is_run is_run_before
  run_before =
      rw (low-before, high-before, tips_ones 64 s (has s) (λ t. t) (lt_of_lt_of_le d.below (pow_mono narrow)) (λ k. refl)) refl

module _ {m : ℕ} {lines : List ℕ} (narrow : m ≤ 64) (ds : All (Domain m) lines) where
  pub taken_inside : (a e w c : ℕ) → e ≡ a + w → taken_by lines a e c ≡ inside lines a w c
  unfolding taken_by inside lies
  taken_inside a e w c q = rw q (count_cong (all_map (λ s d. rw (low-before narrow d, high-before narrow d) refl) ds))

  most-before : (k a e : ℕ) → e - a ≤ k → most_before k lines a e ≡ most_of any lines a (e - a)
  unfolding most_before
  most-before zero a e h =
      let z : e - a ≡ 0 = omega arith in
      rw z (sym (most_zero any lines a))
  most-before (suc k) a e h =
      let w = e - a in
      let D = most_of any lines in
      greatest_is (λ i. pairs_by (most_before k lines) lines a e (a + i)) w
      ∙ largest_cong _ (split D lines a w) w (λ i l.
      let x : a + i - a ≡ i = omega arith in
      let y : e - (a + i + 1) ≡ w - (i + 1) = omega arith in
      let left = rw x at (most-before k a (a + i) (omega arith)) in
      let right = rw y at (most-before k (a + i + 1) e (omega arith)) in
      omega (arith, ap choose2 (taken_inside a e w (a + i) (omega arith)), left, right))
      ∙ sym (most-split any lines (λ c n. absurd n) a w)

  -- C of the base is today's, for any lines
  pub C-before : (a e : ℕ) → C lines a (e - a) ≡ C_before lines a e
  unfolding C_before
  C-before a e = C-any lines a (e - a) ∙ sym (most-before (e - a) a e (le_refl _))

  pub table-before : table m lines ≡ table_before m lines
  unfolding table table_before
  table-before = list_of_cong _ _ (m * m) (λ k _. C-before (k / m) (k % m + 1))

  pick-before : (a e : ℕ) → pick_before lines a e ≡ a + old_pick lines a (e - a)
  unfolding pick_before
  pick-before a e =
      let w = e - a in
      ap (λ i. a + i) (lowest_reached (λ i. pairs_by (C_before lines) lines a e (a + i)) (split (C lines) lines a w) (C_before lines a e) w
      (λ i l.
      let x : a + i - a ≡ i = omega arith in
      let y : e - (a + i + 1) ≡ w - (i + 1) = omega arith in
      let left = rw x at (C-before a (a + i)) in
      let right = rw y at (C-before (a + i + 1) e) in
      omega (arith, ap choose2 (taken_inside a e w (a + i) (omega arith)), left, right))
      (sym (C-before a e) ∙ C-split lines a w))

  best_tip_is : (k a e s : ℕ) → Domain m s → best_tip_before k lines a e s ≡ tip_by (pick_of bare any lines) k a (e - a) s
  unfolding best_tip_before tip_by
  best_tip_is zero a e s d = refl
  best_tip_is (suc k) a e s d =
      let w = e - a in
      let i = old_pick lines a w in
      let x : a + i - a ≡ i = omega arith in
      let y : e - (a + i + 1) ≡ w - (i + 1) = omega arith in
      let left = rw x at (best_tip_is k a (a + i) s d) in
      let right = rw y at (best_tip_is k (a + i + 1) e s d) in
      rw (pick-before a e, old-pick lines a w, high-before narrow d, left, right) refl

  -- UNBROKEN RUNS keep the base's plan
  pub best-before : All (λ s. T (is_run_before s)) lines → best_plan bare m lines ≡ best_before m lines
  unfolding best_before
  best-before rs =
      let z : m - 0 ≡ m = omega arith in
      unbroken_plan narrow ds (all_map (λ s (d, r). rw (run_before narrow d) r) (all_both ds rs))
      ∙ map_cong (all_map (λ s d. sym (rw z at (best_tip_is m 0 m s d))) ds)
