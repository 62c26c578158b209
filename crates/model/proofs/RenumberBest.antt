-- BEST SHARING ON THE BOARD RENUMBERED: the most pairs, the pick of each interval, and each line's tip are those of the board.
use Prim.Native.Nat.{ℕ, zero, suc, ◌+◌, ◌-◌, ◌≤◌, ◌<◌}
use native.Mathlib.Omega.{arith}
use mathlib.Core.Path.{◌≡◌, ap, sym}
use mathlib.Core.Logic.{⊎_elim}
use mathlib.Core.Bool.{Bool}
use mathlib.Core.List.{List}
use lib.Dec.{T}
use Rattle.model.specs.Count.{All}
use Rattle.model.specs.Interval.{any, split, most_of}
use Rattle.model.specs.Renumber.{rank, tip_at, renumbered, width, Fits}
use Rattle.model.proofs.Tests.{test}
use Rattle.model.proofs.Largest.{largest_le}
use Rattle.model.proofs.Most.{counted, counted_ok, counted_not, most_ge, most-counted}
use Rattle.model.proofs.Rank.{rank_ok, rank_mono, rank_lt, lt_rank, le_rank, tip-at, width_end}
use Rattle.model.proofs.Renumber.{inside-ranks}

module _ {ok : ℕ → Bool} {m : ℕ} {lines : List ℕ} (narrow : m ≤ 64) (fs : All (Fits ok m) lines) where
  abbrev E : ℕ → ℕ → ℕ
  E = most_of ok lines

  abbrev lines' : List ℕ
  lines' = renumbered ok m lines

  abbrev E' : ℕ → ℕ → ℕ
  E' = most_of any lines'

  -- each tip of an interval that is ok has a place in the interval renumbered
  pub place : (a w i : ℕ) → i < w → T (ok (a + i)) → width ok a i < width ok a w
  place a w i l o = omega (arith, width_end ok a i, width_end ok a w, rank_lt ok (a + i) (a + w) o (omega arith))

  -- each place is that of such a tip
  pub back : (a w j : ℕ) → a + w ≤ m → j < width ok a w → (i : ℕ) × (i < w) × T (ok (a + i)) × (width ok a i ≡ j)
  back a w j b l =
      let r : rank ok a + j < rank ok (a + w) = omega (arith, width_end ok a w) in
      let t = tip_at ok m (rank ok a + j) in
      let (u, o, e) = tip-at ok m (rank ok a + j) (omega (arith, rank_mono ok (a + w) m b)) in
      let from : a ≤ t = le_rank ok a t o (omega arith) in
      let to : t < a + w = lt_rank ok t (a + w) (omega arith) in
      let same : a + (t - a) ≡ t = omega arith in
      (t - a, omega arith, rw same o, omega (arith, width_end ok a (t - a), ap (rank ok) same))

  -- the interval behind a tip that is ok
  pub behind : (a w i : ℕ) → i < w → T (ok (a + i)) → width ok a w - (width ok a i + 1) ≡ width ok (a + i + 1) (w - (i + 1))
  behind a w i l o =
      let e : a + i + 1 + (w - (i + 1)) ≡ a + w = omega arith in
      omega (arith, width_end ok a i, width_end ok a w, width_end ok (a + i + 1) (w - (i + 1)), ap (rank ok) e, rank_ok ok (a + i) o)

  -- splits are the same where the tables of the intervals beside the tip are
  pub split-ranks : (a w i : ℕ) → a + w ≤ m → i < w → T (ok (a + i)) → E a i ≡ E' (rank ok a) (width ok a i)
      → E (a + i + 1) (w - (i + 1)) ≡ E' (rank ok (a + i + 1)) (width ok (a + i + 1) (w - (i + 1)))
      → split E' lines' (rank ok a) (width ok a w) (width ok a i) ≡ split E lines a w i
  split-ranks a w i b l o x y =
      rw (width_end ok a i, sym (rank_ok ok (a + i) o), behind a w i l o, inside-ranks narrow fs a w (a + i) (omega arith) o) (omega arith)

  most_step : (a w : ℕ) → a + w ≤ m → ((b u : ℕ) → u < w → b + u ≤ m → E b u ≡ E' (rank ok b) (width ok b u))
      → E a w ≡ E' (rank ok a) (width ok a w)
  most_step a w b ih =
      omega (
        arith,
        most-counted ok lines a w,
        largest_le _ w _ up,
        most-counted any lines' (rank ok a) (width ok a w),
        largest_le _ (width ok a w) _ down,
      )
    where
      same : (i : ℕ) → i < w → T (ok (a + i)) → split E' lines' (rank ok a) (width ok a w) (width ok a i) ≡ split E lines a w i
      same i l o = split-ranks a w i b l o (ih a i l (omega arith)) (ih (a + i + 1) (w - (i + 1)) (omega arith) (omega arith))

      up : (i : ℕ) → i < w → counted ok lines E a w i ≤ E' (rank ok a) (width ok a w)
      up i l =
          ⊎_elim
          (λ o. omega (
            arith,
            counted_ok ok lines E a w i o,
            same i l o,
            most_ge any lines' (rank ok a) (width ok a w) (width ok a i)
                (place a w i l o) tt,
          ))
          (λ n. omega (arith, counted_not ok lines E a w i n))
          (test (ok (a + i)))

      down : (j : ℕ) → j < width ok a w → split E' lines' (rank ok a) (width ok a w) j ≤ E a w
      down j l =
          let (i, h, o, e) = back a w j b l in
          rw (← e) (omega (arith, same i h o, most_ge ok lines a w i h o))

  -- THE MOST PAIRS OF AN INTERVAL are those of the interval renumbered
  most-by : (k a w : ℕ) → w ≤ k → a + w ≤ m → E a w ≡ E' (rank ok a) (width ok a w)
  most-by zero a w h b = most_step a w b (λ c u l. absurd (omega arith))
  most-by (suc k) a w h b = most_step a w b (λ c u l. most-by k c u (omega arith))

  pub most-ranks : (a w : ℕ) → a + w ≤ m → most_of ok lines a w ≡ most_of any (renumbered ok m lines) (rank ok a) (width ok a w)
  most-ranks a w b = most-by w a w (omega arith) b
