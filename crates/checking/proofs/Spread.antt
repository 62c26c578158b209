-- THE TABLE BY RANKS: where a table is spread, the entry of an interval is that of the interval renumbered in the table of the named tips.
use Rattle.std.proofs.Common.{◌≡◌, ℕ, zero, suc, ◌+◌, ◌-◌, ◌*◌, ◌<◌, ◌≤◌, Bool, true, false, cond, not, ◌&&◌}
use Rattle.std.proofs.Common.{◌||◌, T, eqb, List, ap, sym, ◌∙◌, arith, eqb→eq, add-one, suc-mul}
use mathlib.Core.Logic.{⊎_elim}
use Rattle.model.specs.Plan.{has}
use Rattle.model.specs.Renumber.{rank, tip_at, width}
use Rattle.model.proofs.Tests.{test, true_T, false_T, every_iff, and_left, and_right, le_or_lt}
use Rattle.model.proofs.Rank.{rank_ok, rank-more, rank_mono, rank_lt, tip-rank, width_end}
use Rattle.goal_rules.specs.Check.{entry}
use Rattle.intervals.proofs.Entry.{entry_some}
use Rattle.checking.specs.Spread.{cell, row_copied, columns_copied, row_spread, is_spread, Gathered}

-- a tip that is not ok adds none
rank_not : (ok : ℕ → Bool) (t : ℕ) → T (not (ok t)) → rank ok (t + 1) ≡ rank ok t
rank_not ok t n = omega (arith, rank-more ok t, ap {B = ℕ} (λ b. cond b 1 0) (false_T (ok t) n))

-- where the next row begins
pub row_after : (m a : ℕ) → (a + 1) * m ≡ a * m + m
row_after m a = ap (λ x. x * m) (add-one a) ∙ suc-mul a m

or_out : (a b : Bool) → T (a || b) → T (not a) → T b
or_out true b t n = absurd n
or_out false b t n = t

module _ (names m : ℕ) (tab : List ℕ) where
  abbrev ok : ℕ → Bool
  ok = has names

  abbrev first : ℕ → ℕ
  first a = tip_at (has names) m (rank (has names) a)

  abbrev last : ℕ → ℕ
  last b = tip_at (has names) m (rank (has names) (b + 1) - 1)

  -- a named tip is the last named tip up to it
  last_own : (b : ℕ) → b < m → T (ok b) → last b ≡ b
  last_own b l o =
      let e : rank ok (b + 1) - 1 ≡ rank ok b = omega (arith, rank_ok ok b o) in
      rw e (tip-rank ok m b l o)

  module _ (spread : T (is_spread names m tab)) where
    row_at : (a : ℕ) → a < m → T (row_spread names m tab a)
    unfolding is_spread
    row_at a l = (every_iff (row_spread names m tab) m).0 spread a l

    -- the row of a named tip: a tip that is not named has the number of the tip before
    columns : (a : ℕ) → a < m → T (ok a) → T (columns_copied names m tab a)
    unfolding row_spread
    columns a l o = rw (true_T (ok a) o) at (row_at a l)

    column : (a n : ℕ) → a + suc n < m → T (ok a) → T (not (ok (a + suc n))) → cell m tab a (a + suc n) ≡ cell m tab a (a + n)
    unfolding columns_copied
    column a n l o h =
        let b : a + 1 + n ≡ a + suc n = omega arith in
        let each = (every_iff (λ j. has names (a + 1 + j) || eqb (cell m tab a (a + 1 + j)) (cell m tab a (a + j))) (m - (a + 1))).0
        (columns a (omega arith) o) n (omega arith) in
        eqb→eq (cell m tab a (a + suc n)) (cell m tab a (a + n))
        (or_out (ok (a + suc n)) (eqb (cell m tab a (a + suc n)) (cell m tab a (a + n))) (rw b at each) h)

    -- the row of another tip
    copied : (a : ℕ) → a < m → T (not (ok a)) → T (eqb (cell m tab a a) 0 && row_copied m tab a)
    unfolding row_spread
    copied a l n = rw (false_T (ok a) n) at (row_at a l)

    own_place : (a : ℕ) → a < m → T (not (ok a)) → cell m tab a a ≡ 0
    own_place a l n = eqb→eq (cell m tab a a) 0 (and_left (eqb (cell m tab a a) 0) (row_copied m tab a) (copied a l n))

    next_row : (a b : ℕ) → a < b → b < m → T (not (ok a)) → cell m tab a b ≡ cell m tab (a + 1) b
    unfolding row_copied
    next_row a b h l n =
        let e : a + 1 + (b - (a + 1)) ≡ b = omega arith in
        let each = (every_iff (λ j. eqb (cell m tab a (a + 1 + j)) (cell m tab (a + 1) (a + 1 + j))) (m - (a + 1))).0
        (and_right (eqb (cell m tab a a) 0) (row_copied m tab a) (copied a (omega arith) n)) (b - (a + 1)) (omega arith) in
        eqb→eq (cell m tab a b) (cell m tab (a + 1) b) (rw e at each)

    -- from a named tip on, each number is that of the last named tip
    along_row : (a n : ℕ) → a + n < m → T (ok a) → cell m tab a (a + n) ≡ cell m tab a (last (a + n))
    along_row a zero l o =
        let e : a + 0 ≡ a = omega arith in
        rw e (sym (ap (cell m tab a) (last_own a (omega arith) o)))
    along_row a (suc n) l o =
        ⊎_elim
        (λ t. sym (ap (cell m tab a) (last_own (a + suc n) l t)))
        (λ h. let e : a + n + 1 ≡ a + suc n = omega arith in
        let r : rank ok (a + suc n + 1) ≡ rank ok (a + n + 1) = rank_not ok (a + suc n) h ∙ ap (rank ok) (sym e) in
        rw r (column a n l o h ∙ along_row a n (omega arith) o))
        (test (ok (a + suc n)))

    -- where the first tip of an interval is not named, but some tip is, the interval goes on
    goes_on : (a b : ℕ) → a ≤ b → T (not (ok a)) → rank ok a < rank ok (b + 1) → a < b
    goes_on a b f n p =
        ⊎_elim (λ q. let e : b + 1 ≡ a + 1 = omega arith in absurd (omega (arith, rank_not ok a n, ap (rank ok) e))) (λ q. q) (le_or_lt b a)

    -- AN INTERVAL WITH NAMED TIPS has the number of the first and the last of them
    some_named : (k a b : ℕ) → m ≤ a + k → a ≤ b → b < m → rank ok a < rank ok (b + 1) → cell m tab a b ≡ cell m tab (first a) (last b)
    some_named zero a b h f l p = absurd (omega arith)
    some_named (suc k) a b h f l p = ⊎_elim own (next (some_named k (a + 1) b (omega arith))) (test (ok a))
      where
        own : T (ok a) → cell m tab a b ≡ cell m tab (first a) (last b)
        own o =
            let e : a + (b - a) ≡ b = omega arith in
            rw (tip-rank ok m a (omega arith) o) (rw e at (along_row a (b - a) (omega arith) o))

        next : (a + 1 ≤ b → b < m → rank ok (a + 1) < rank ok (b + 1) → cell m tab (a + 1) b ≡ cell m tab (first (a + 1)) (last b))
            → T (not (ok a)) → cell m tab a b ≡ cell m tab (first a) (last b)
        next rest n =
            let r = rank_not ok a n in
            let g = goes_on a b f n p in
            next_row a b g l n ∙ (rw r at (rest (omega arith) l (omega (arith, r))))

    -- AN INTERVAL WITH NONE has 0
    none_named : (k a b : ℕ) → m ≤ a + k → a ≤ b → b < m → rank ok (b + 1) ≤ rank ok a → cell m tab a b ≡ 0
    none_named zero a b h f l p = absurd (omega arith)
    none_named (suc k) a b h f l p = ⊎_elim last_place (next (none_named k (a + 1) b (omega arith))) (le_or_lt b a)
      where
        n : T (not (ok a))
        n = ⊎_elim (λ o. absurd (omega (arith, rank_lt ok a (b + 1) o (omega arith)))) (λ n. n) (test (ok a))

        last_place : b ≤ a → cell m tab a b ≡ 0
        last_place q = let e : b ≡ a = omega arith in rw e (own_place a (omega arith) n)

        next : (a + 1 ≤ b → b < m → rank ok (b + 1) ≤ rank ok (a + 1) → cell m tab (a + 1) b ≡ 0) → a < b → cell m tab a b ≡ 0
        next rest q = next_row a b q l n ∙ rest (omega arith) l (omega (arith, rank_not ok a n))

    module _ {r : ℕ} {own : List ℕ} (counted : r ≡ rank (has names) m) (g : Gathered names m r tab own r 0) where
      no_entry : (a w : ℕ) → a + w ≤ m → width ok a w ≡ 0 → entry m tab a w ≡ entry r own (rank ok a) (width ok a w)
      unfolding entry
      no_entry a zero l z = rw z
      no_entry a (suc v) l z =
          let e : a + suc v ≡ a + v + 1 = omega arith in
          rw z (none_named m a (a + v) (omega arith) (omega arith) (omega arith) (omega (arith, width_end ok a (suc v), ap (rank ok) e)))

      some_entry : (a w : ℕ) → a + w ≤ m → 0 < width ok a w → entry m tab a w ≡ entry r own (rank ok a) (width ok a w)
      some_entry a w l p =
          let s : 0 < w =
          ⊎_elim (λ q. let e : a + w ≡ a = omega arith in absurd (omega (arith, width_end ok a w, ap (rank ok) e))) (λ q. q) (le_or_lt w 0) in
          let b = a + (w - 1) in
          let e : a + w ≡ b + 1 = omega arith in
          let n : rank ok a + width ok a w ≡ rank ok (b + 1) = width_end ok a w ∙ ap (rank ok) e in
          let top = rank_mono ok (b + 1) m (omega arith) in
          let i : rank ok a + (width ok a w - 1) ≡ rank ok (b + 1) - 1 = omega (arith, n) in
          entry_some m tab a w s
          ∙ some_named m a b (omega arith) (omega arith) (omega arith) (omega (arith, n))
          ∙ sym (entry_some r own (rank ok a) (width ok a w) p
          ∙ (rw i (g.rows (rank ok a) (rank ok (b + 1) - 1) (omega (arith, n, top, counted)) (omega (arith, n, top, counted)))))

      -- THE ENTRIES
      pub entries : (a w : ℕ) → a + w ≤ m → entry m tab a w ≡ entry r own (rank (has names) a) (width (has names) a w)
      entries a w l =
          ⊎_elim (λ q. no_entry a w l (omega arith)) (λ q. some_entry a w l q) (le_or_lt (width ok a w) 0)
