-- Reach by the two tables: the table of the lines with q more on tip t, followed along the chain of intervals that have t. The table of all lines
-- serves inside the other intervals, and a chain is followed through an interval only where enough pairs can be had.
use Prim.Native.Nat.{ℕ, zero, suc, ◌+◌, ◌*◌, ◌-◌, ◌≤◌, ◌<◌}
use native.Mathlib.Omega.{arith}
use native.Mathlib.Nat.{mul-le-mul_left}
use mathlib.Core.Path.{◌≡◌, ap, ap₂}
use mathlib.Core.Logic.{⊎_elim}
use mathlib.Core.Bool.{Bool}
use mathlib.Core.List.{List}
use lib.Dec.{T}
use Rattle.model.specs.Count.{All}
use Rattle.model.specs.Plan.{choose2}
use Rattle.model.specs.Interval.{Line, inside, split}
use Rattle.model.proofs.Tests.{le_or_lt}
use Rattle.model.proofs.Pairs.{choose2_square}
use Rattle.goal_rules.specs.Goal.{joined}
use Rattle.goal_rules.specs.Tables.{Solved, before, behind, around, Out, Opened, ended, Ends}
use Rattle.goal_rules.proofs.Solved.{whole_le, split_le, inside_wider}
use Rattle.goal_rules.proofs.Joined.{joined-lines, inside-at, inside-tip}
use Rattle.goal_rules.proofs.Outer.{largest_le, Out_le, Out_open, around-before, around-behind}

-- the pairs among p placements and q more
choose2-more : (p q : ℕ) → choose2 (p + q) ≡ choose2 p + (q * p + choose2 q)
choose2-more p q = omega (arith, choose2_square (p + q), choose2_square p, choose2_square q)

module _ {ok : ℕ → Bool} {m : ℕ} {rest : List ℕ} {D E : ℕ → ℕ → ℕ} (narrow : m ≤ 64) (ls : All (Line ok m) rest)
    (q t : ℕ) (below : t < m) (good : T (ok t)) (y : Solved ok m (joined rest q t) E)
    (apart : (a w : ℕ) → a + w ≤ m → (a ≤ t → t < a + w → ⊥) → E a w ≡ D a w) where
  abbrev all : List ℕ
  all = joined rest q t

  -- ---- a split of an interval that has t: at a tip after t, before t, and at t

  module _ (a w i : ℕ) (l : i < w) (b : a + w ≤ m) where
    pub after-t : t < a + i → split E all a w i ≡ choose2 (inside rest a w (a + i)) + (E a i + D (a + i + 1) (w - (i + 1)))
    after-t h = omega (
      arith,
      ap choose2 (inside-tip rest q t a w (a + i) (λ e. omega arith)),
      apart (a + i + 1) (w - (i + 1)) (omega arith) (λ u v. omega arith),
    )

    pub before-t : a + i < t → split E all a w i ≡ choose2 (inside rest a w (a + i)) + (D a i + E (a + i + 1) (w - (i + 1)))
    before-t h = omega (arith, ap choose2 (inside-tip rest q t a w (a + i) (λ e. omega arith)), apart a i (omega arith) (λ u v. omega arith))

    pub at-t : a + i ≡ t → split E all a w i ≡ choose2 (inside rest a w (a + i) + q) + (D a i + D (a + i + 1) (w - (i + 1)))
    at-t e =
        let n : inside all a w (a + i) ≡ inside rest a w (a + i) + q = rw e (inside-at rest q t narrow below a w (omega arith) (omega arith)) in
        omega (
          arith,
          ap choose2 n,
          apart a i (omega arith) (λ u v. omega arith),
          apart (a + i + 1) (w - (i + 1)) (omega arith) (λ u v. omega arith),
        )

    pub splits : split E all a w i ≤ E a w
    splits = split_le y (joined-lines narrow ls q t below good) a w i b l tt

  -- ---- no interval has more pairs than by the table D, and with all on t that can be

  module _ (bounds : (a w i : ℕ) → a + w ≤ m → i < w → split D rest a w i ≤ D a w) where
    abbrev more : ℕ → ℕ → ℕ
    more a w = q * inside rest a w t + choose2 q

    more_wider : (a w c v : ℕ) → a ≤ c → c + v ≤ a + w → more c v ≤ more a w
    more_wider a w c v p r = omega (arith, mul-le-mul_left q (inside_wider rest a w c v t p r))

    module _ (a w : ℕ) (p : a ≤ t) (r : t < a + w) (b : a + w ≤ m)
        (narrower : (c v : ℕ) → v < w → c ≤ t → t < c + v → c + v ≤ m → E c v ≤ D c v + more c v) where
      at_split : (i : ℕ) → i < w → split E all a w i ≡ E a w → E a w ≤ D a w + more a w
      at_split i l e = ⊎_elim (λ x. ⊎_elim (λ z. here (omega arith)) behind_it (le_or_lt t (a + i))) before_it (le_or_lt (a + i) t)
        where
          before_it : t < a + i → E a w ≤ D a w + more a w
          before_it h = omega (
            arith,
            after-t a w i l b h,
            bounds a w i b l,
            narrower a i l p h (omega arith),
            more_wider a w a i (omega arith) (omega arith),
          )

          behind_it : a + i < t → E a w ≤ D a w + more a w
          behind_it h = omega (
            arith,
            before-t a w i l b h,
            bounds a w i b l,
            narrower (a + i + 1) (w - (i + 1)) (omega arith) (omega arith) (omega arith) (omega arith),
            more_wider a w (a + i + 1) (w - (i + 1)) (omega arith) (omega arith),
          )

          here : a + i ≡ t → E a w ≤ D a w + more a w
          here h = omega (
            arith,
            at-t a w i l b h,
            bounds a w i b l,
            choose2-more (inside rest a w (a + i)) q,
            ap (λ c. q * inside rest a w c) h,
          )

      more_step : E a w ≤ D a w + more a w
      more_step = ⊎_elim (λ (l, _, e). at_split (y.pick a w) l e) (λ (f, z). absurd (f t p r good)) (y.picks.attains a w b)

    more_by : (k a w : ℕ) → w < k → a ≤ t → t < a + w → a + w ≤ m → E a w ≤ D a w + more a w
    more_by zero a w h p r b = absurd (omega arith)
    more_by (suc k) a w h p r b = more_step a w p r b (λ c v x. more_by k c v (omega arith))

    -- THE BOUND of an interval that has t
    pub more_le : (a w : ℕ) → a ≤ t → t < a + w → a + w ≤ m → E a w ≤ D a w + (q * inside rest a w t + choose2 q)
    more_le a w = more_by (suc w) a w (omega arith)

  module _ (is_open : ℕ → ℕ → ℕ → Bool) where
    abbrev O : ℕ → ℕ → ℕ
    O = Out is_open m D rest

    -- ---- no chain has more pairs than the rack

    module _ (a w : ℕ) (p : a ≤ t) (r : t < a + w) (b : a + w ≤ m)
        (wider : (c v : ℕ) → w < v → c ≤ t → t < c + v → c + v ≤ m → O c v + E c v ≤ E 0 m) where
      by_before : (j : ℕ) → j < m - (a + w) → before O D rest a w j + E a w ≤ E 0 m
      by_before j l =
          let v = w + 1 + j in
          let e : v - (w + 1) ≡ j = omega arith in
          omega (
            arith,
            wider a v (omega arith) p (omega arith) (omega arith),
            splits a v w (omega arith) (omega arith),
            after-t a v w (omega arith) (omega arith) r,
            ap (D (a + w + 1)) e,
          )

      by-behind : (j : ℕ) → j < a → behind O D rest a w j + E a w ≤ E 0 m
      by-behind j l =
          let v = a - j + w in
          let i = a - (j + 1) in
          let c : j + i ≡ a - 1 = omega arith in
          let s : j + i + 1 ≡ a = omega arith in
          let e : v - (i + 1) ≡ w = omega arith in
          omega (
            arith,
            wider j v (omega arith) (omega arith) (omega arith) (omega arith),
            splits j v i (omega arith) (omega arith),
            before-t j v i (omega arith) (omega arith) (omega arith),
            ap (λ x. choose2 (inside rest j v x)) c,
            ap₂ E s e,
          )

      chain_step : O a w + E a w ≤ E 0 m
      chain_step =
          let h = whole_le y a w b in
          omega (
            arith,
            Out_le is_open m D rest a w b,
            largest_le (before O D rest a w) (m - (a + w)) h by_before,
            largest_le (behind O D rest a w) a h by-behind,
          )

    chain_le : (k a w : ℕ) → m - w ≤ k → a ≤ t → t < a + w → a + w ≤ m → O a w + E a w ≤ E 0 m
    chain_le zero a w h p r b = chain_step a w p r b (λ c v x y z u. absurd (omega arith))
    chain_le (suc k) a w h p r b = chain_step a w p r b (λ c v x. chain_le k c v (omega arith))

    -- A CHAIN THAT ENDS AT t has at most the pairs of the rack
    pub ended_le : (a w i : ℕ) → a + i ≡ t → i < w → a + w ≤ m → ended is_open m D rest q a w i ≤ E 0 m
    ended_le a w i e l b =
        omega (arith, chain_le (m - w) a w (omega arith) (omega arith) (omega arith) b, at-t a w i l b e, splits a w i l b)

    -- ---- some chain has as many, where each interval with enough pairs is open

    module _ (K : ℕ) (opens : (a w : ℕ) → a ≤ t → t < a + w → a + w ≤ m → K ≤ around m O D rest a w + E a w → Opened is_open m D rest a w) where
      abbrev Found : Type 0
      Found = Ends is_open m D rest q K t

      module _ (a w : ℕ) (p : a ≤ t) (r : t < a + w) (b : a + w ≤ m) (enough : K ≤ O a w + E a w)
          (narrower : (c v : ℕ) → v < w → c ≤ t → t < c + v → c + v ≤ m → K ≤ O c v + E c v → Found) where
        -- on to an interval beside the tip
        go_on : (c v : ℕ) → v < w → c ≤ t → t < c + v → c + v ≤ m → K ≤ around m O D rest c v + E c v → Found
        go_on c v l f g h k = narrower c v l f g h (omega (arith, Out_open is_open m D rest c v h (opens c v f g h k)))

        split_step : (i : ℕ) → i < w → split E all a w i ≡ E a w → Found
        split_step i l e = ⊎_elim (λ x. ⊎_elim (λ z. here (omega arith)) behind_it (le_or_lt t (a + i))) before_it (le_or_lt (a + i) t)
          where
            before_it : t < a + i → Found
            before_it h = go_on a i l p h (omega arith) (omega (arith, after-t a w i l b h, around-before m O D rest a w i l b))

            behind_it : a + i < t → Found
            behind_it h = go_on (a + i + 1) (w - (i + 1)) (omega arith) (omega arith) (omega arith) (omega arith)
                (omega (arith, before-t a w i l b h, around-behind m O D rest a w i l b))

            here : a + i ≡ t → Found
            here h = (a, w, i, h, l, b, opens a w p r b (omega (arith, Out_le is_open m D rest a w b)), omega (arith, at-t a w i l b h))

        chain_down : Found
        chain_down = ⊎_elim (λ (l, _, e). split_step (y.pick a w) l e) (λ (f, z). absurd (f t p r good)) (y.picks.attains a w b)

      chain_ge : (k a w : ℕ) → w < k → a ≤ t → t < a + w → a + w ≤ m → K ≤ O a w + E a w → Found
      chain_ge zero a w h p r b e = absurd (omega arith)
      chain_ge (suc k) a w h p r b e = chain_down a w p r b e (λ c v x. chain_ge k c v (omega arith))

      -- SOME CHAIN has K pairs where the rack has
      pub reach-found : K ≤ E 0 m → Found
      reach-found h = chain_ge (suc m) 0 m (omega arith) (omega arith) (omega arith) (omega arith) (omega arith)
