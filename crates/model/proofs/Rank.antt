-- The rank of a tip among those that pass a test, and the tip of a rank.
use Prim.Native.Nat.{ℕ, zero, suc, ◌+◌, ◌≤◌, ◌<◌, zero-le}
use native.Mathlib.Numerals.{add-one}
use native.Mathlib.Omega.{arith}
use native.Mathlib.Nat.{le_refl}
use mathlib.Core.Path.{◌≡◌, refl, ap, sym}
use mathlib.Core.Logic.{◌⊎◌, inl, inr, ⊎_elim}
use mathlib.Core.Bool.{Bool, true, not, cond, ◌&&◌}
use lib.Dec.{T, T_not, eqb, eqb→eq}
use borrow.Author.Tests.{ne_eqb}
use Rattle.model.specs.Choice.{Mounted, bare, tip, is_on}
use Rattle.model.specs.Renumber.{rank, tip_at, rank_on, width}
use Rattle.model.proofs.Tests.{le_or_lt, test, true_T, false_T, false_not, eqb_T, same_test, cond_case}
use Rattle.model.proofs.Tests.{and_left, and_right, and_in, one_le, one_T}

module _ (ok : ℕ → Bool) where
  -- a tip that is ok adds one
  pub rank_ok : (t : ℕ) → T (ok t) → rank ok (t + 1) ≡ rank ok t + 1
  unfolding rank
  rank_ok t o = rw (add-one t, rank, true_T (ok t) o)

  -- for a loop over the tips
  pub rank-more : (t : ℕ) → rank ok (t + 1) ≡ rank ok t + cond (ok t) 1 0
  unfolding rank
  rank-more t = rw (add-one t)

  rank_step : (t : ℕ) → rank ok t ≤ rank ok (suc t)
  unfolding rank
  rank_step t = omega arith

  pub rank_mono : (a b : ℕ) → a ≤ b → rank ok a ≤ rank ok b
  rank_mono a zero h =
      let e : a ≡ 0 = omega arith in
      rw e (le_refl _)
  rank_mono a (suc b) h =
      ⊎_elim (λ p. omega (arith, rank_mono a b p, rank_step b)) (λ p. let e : a ≡ suc b = omega arith in rw e (le_refl _)) (le_or_lt a b)

  -- no more tips are ok than there are
  pub rank_le : (m : ℕ) → rank ok m ≤ m
  unfolding rank
  rank_le zero = zero-le
  rank_le (suc m) = omega (arith, rank_le m, one_le (ok m) true (λ _. tt))

  -- where as many are ok as there are, each is
  pub rank_full : (m : ℕ) → rank ok m ≡ m → (t : ℕ) → t < m → T (ok t)
  unfolding rank
  rank_full zero e t l = absurd (omega arith)
  rank_full (suc m) e t l =
      let most = rank_le m in
      let last : T (ok m) = one_T (ok m) (omega (arith, most)) in
      ⊎_elim
      (λ p. let q : t ≡ m = omega arith in rw q last)
      (rank_full m (omega (arith, most, one_le (ok m) true (λ _. tt))) t)
      (le_or_lt m t)

  -- ranks are in the order of the tips
  pub rank_lt : (a b : ℕ) → T (ok a) → a < b → rank ok a < rank ok b
  rank_lt a b o h = omega (arith, rank_ok a o, rank_mono (a + 1) b (omega arith))

  pub lt_rank : (a b : ℕ) → rank ok a < rank ok b → a < b
  lt_rank a b h = ⊎_elim (λ p. absurd (omega (arith, rank_mono b a p))) (λ p. p) (le_or_lt b a)

  pub le_rank : (a c : ℕ) → T (ok c) → rank ok a ≤ rank ok c → a ≤ c
  le_rank a c o h = ⊎_elim (λ p. p) (λ p. absurd (omega (arith, rank_lt c a o p))) (le_or_lt a c)

  pub same_rank : (a b : ℕ) → T (ok a) → T (ok b) → rank ok a ≡ rank ok b → a ≡ b
  same_rank a b o p e = omega (arith, le_rank a b p (omega arith), le_rank b a o (omega arith))

  -- where no tip is ok the rank stays
  pub rank_idle : (a w : ℕ) → ((c : ℕ) → a ≤ c → c < a + w → T (ok c) → ⊥) → rank ok (a + w) ≡ rank ok a
  unfolding rank
  rank_idle a zero f =
      let e : a + 0 ≡ a = omega arith in
      rw e
  rank_idle a (suc w) f =
      let e : a + suc w ≡ suc (a + w) = omega arith in
      rw (e, rank, false_not (ok (a + w)) (f (a + w) (omega arith) (omega arith)))
      (omega (arith, rank_idle a w (λ c p q. f c p (omega arith))))

  -- the tip of each rank below that of m
  pub tip-at : (m j : ℕ) → j < rank ok m → (tip_at ok m j < m) × T (ok (tip_at ok m j)) × (rank ok (tip_at ok m j) ≡ j)
  unfolding rank tip_at
  tip-at zero j h = absurd (omega arith)
  tip-at (suc m) j h =
      cond_case (Found (suc m)) (ok m && eqb (rank ok m) j)
      (λ y. (le_refl _, and_left (ok m) (eqb (rank ok m) j) y, eqb→eq (rank ok m) j (and_right (ok m) (eqb (rank ok m) j) y)))
      (λ n. next (tip-at m j (lower (T_not (ok m && eqb (rank ok m) j) n) (test (ok m)))))
    where
      Found : ℕ → ℕ → Type 0
      Found m t = (t < m) × T (ok t) × (rank ok t ≡ j)

      next : Found m (tip_at ok m j) → Found (suc m) (tip_at ok m j)
      next (b, o, e) = (omega arith, o, e)

      lower : (T (ok m && eqb (rank ok m) j) → ⊥) → T (ok m) ⊎ T (not (ok m)) → j < rank ok m
      lower f (inl o) =
          ⊎_elim
          (λ p. absurd (f (and_in (ok m) (eqb (rank ok m) j) o (eqb_T (rank ok m) j (omega (arith, one_le (ok m) true (λ _. tt)))))))
          (λ p. p)
          (le_or_lt (rank ok m) j)
      lower f (inr n) = omega (arith, rw (false_T (ok m) n) at h)

  pub tip-rank : (m t : ℕ) → t < m → T (ok t) → tip_at ok m (rank ok t) ≡ t
  tip-rank m t l o =
      let (b, p, e) = tip-at m (rank ok t) (rank_lt t m o l) in
      same_rank (tip_at ok m (rank ok t)) t p o e

  -- the tips of the ranks below that of t are found below t
  pub tip_same : (m t j : ℕ) → t ≤ m → j < rank ok t → tip_at ok m j ≡ tip_at ok t j
  tip_same m t j h l =
      let (b, o, e) = tip-at t j l in
      rw e at (tip-rank m (tip_at ok t j) (omega arith) o)

  -- the interval renumbered ends at the rank of its end
  pub width_end : (a w : ℕ) → rank ok a + width ok a w ≡ rank ok (a + w)
  unfolding width
  width_end a w = omega (arith, rank_mono a (a + w) (omega arith))

  -- the mounted tip renumbered is the rank of the mounted tip
  pub rank-on : (mounted : Mounted) (c : ℕ) → T (ok c) → is_on (rank_on ok mounted) (rank ok c) ≡ is_on mounted c
  unfolding rank_on is_on
  rank-on bare c o = refl
  rank-on (tip t) c o =
      ⊎_elim
      (λ p. rw (true_T (ok t) p) (same_test (eqb (rank ok t) (rank ok c)) (eqb t c)
      (λ e. eqb_T t c (same_rank t c p o (eqb→eq (rank ok t) (rank ok c) e)))
      (λ e. eqb_T (rank ok t) (rank ok c) (ap (rank ok) (eqb→eq t c e)))))
      (λ n. rw (false_T (ok t) n) (sym (ne_eqb t c (λ e. T_not (ok t) n (rw e o)))))
      (test (ok t))
