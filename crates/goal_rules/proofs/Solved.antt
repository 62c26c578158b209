-- Laws of a table of the most pairs: it depends on the counts of the lines within an interval only, and an interval has at least the pairs of two
-- intervals in it that are apart.
use Prim.Native.Nat.{ℕ, zero, suc, ◌+◌, ◌-◌, ◌≤◌, ◌<◌}
use native.Mathlib.Omega.{arith}
use native.Mathlib.Nat.{le_antisymm}
use mathlib.Core.Path.{◌≡◌, ap, ap₂, subst, fun_ext}
use mathlib.Core.Logic.{⊎_elim}
use mathlib.Core.Bool.{Bool, true, ◌&&◌}
use mathlib.Core.List.{List}
use lib.Dec.{T, T_not}
use Rattle.model.specs.Count.{All}
use Rattle.model.specs.Plan.{has, occ, choose2}
use Rattle.model.specs.Interval.{Line, lies, inside, split, C, most_of, pick_of, Dominates}
use Rattle.model.proofs.Tests.{le_or_lt, test, and_left, and_right, and_in}
use Rattle.model.proofs.Lists.{all_map, count_none, count_mono}
use Rattle.model.proofs.Pairs.{choose2_square, choose2_mono}
use Rattle.model.proofs.Interval.{span, in_span}
use Rattle.model.specs.Choice.{Mounted}
use Rattle.model.proofs.Best.{C_of}
use Rattle.model.proofs.Most.{most_dominates, most_picks}
use Rattle.goal_rules.specs.Tables.{Solved}

-- lines whose tips are ok have no tip that is not, so C is the table of the tips that are ok
most-C : {ok : ℕ → Bool} {m : ℕ} (lines : List ℕ) → All (Line ok m) lines → (a w : ℕ) → most_of ok lines a w ≡ C lines a w
unfolding occ
most-C {ok} lines ls a w =
    C_of lines ok (λ c n. count_none (λ s. has s c) (all_map (λ s l h. T_not (ok c) n (l.fits c h)) ls)) a w

-- C is such a table for lines whose tips are ok, by the picks with any tip mounted
pub C_solved : (mounted : Mounted) {ok : ℕ → Bool} (m : ℕ) (lines : List ℕ) → All (Line ok m) lines → Solved ok m lines (C lines)
C_solved mounted {ok} m lines ls =
    subst (Solved ok m lines) (fun_ext (λ a. fun_ext (most-C lines ls a)))
    (record { pick = pick_of mounted ok lines; bounds = most_dominates ok lines m; picks = most_picks ok lines mounted m })

-- a wider interval has at least as many lines that allow a tip
pub inside_wider : (lines : List ℕ) (a w b v c : ℕ) → a ≤ b → b + v ≤ a + w → inside lines b v c ≤ inside lines a w c
unfolding inside
inside_wider lines a w b v c p q =
    count_mono (λ s. lies b v s && has s c) (λ s. lies a w s && has s c) lines (λ s t.
    let x = span b v s (and_left (lies b v s) (has s c) t) in
    and_in (lies a w s) (has s c) (in_span a w s (omega arith) (omega arith)) (and_right (lies b v s) (has s c) t))

module _ {ok : ℕ → Bool} {m : ℕ} {l r : List ℕ} {D E : ℕ → ℕ → ℕ} (x : Solved ok m l D) (y : Solved ok m r E) where
  by_width : (k a w : ℕ) → w < k → a + w ≤ m → ((b v c : ℕ) → a ≤ b → b + v ≤ a + w → inside l b v c ≤ inside r b v c) → D a w ≤ E a w
  by_width zero a w n b h = absurd (omega arith)
  by_width (suc k) a w n b h =
      let i = x.pick a w in
      ⊎_elim
      (λ (u, g, e). omega (
        arith,
        choose2_mono (h a w (a + i) (omega arith) (omega arith)),
        by_width k a i (omega arith) (omega arith) (λ c v t p q. h c v t p (omega arith)),
        by_width k (a + i + 1) (w - (i + 1)) (omega arith) (omega arith) (λ c v t p q. h c v t (omega arith) (omega arith)),
        y.bounds a w i b u g,
      ))
      (λ (f, z). omega arith)
      (x.picks.attains a w b)

  -- with at least as many lines in each interval within this one there are at least as many pairs
  pub solved_le : (a w : ℕ) → a + w ≤ m → ((b v c : ℕ) → a ≤ b → b + v ≤ a + w → inside l b v c ≤ inside r b v c) → D a w ≤ E a w
  solved_le a w = by_width (suc w) a w (omega arith)

-- and with as many, as many
pub solved_same : {ok : ℕ → Bool} {m : ℕ} {l r : List ℕ} {D E : ℕ → ℕ → ℕ} → Solved ok m l D → Solved ok m r E
    → (a w : ℕ) → a + w ≤ m → ((b v c : ℕ) → a ≤ b → b + v ≤ a + w → inside l b v c ≡ inside r b v c) → D a w ≡ E a w
solved_same x y a w n h = le_antisymm
    (solved_le x y a w n (λ b v c p q. omega (arith, h b v c p q)))
    (solved_le y x a w n (λ b v c p q. omega (arith, h b v c p q)))

module _ {ok : ℕ → Bool} {m : ℕ} {lines : List ℕ} {D : ℕ → ℕ → ℕ} (x : Solved ok m lines D) where
  earlier : (k a d w : ℕ) → w < k → a + d + w ≤ m → D (a + d) w ≤ D a (d + w)
  earlier zero a d w n b = absurd (omega arith)
  earlier (suc k) a d w n b =
      let i = x.pick (a + d) w in
      let e : a + (d + i) ≡ a + d + i = omega arith in
      ⊎_elim
      (λ (u, g, s). omega (
        arith,
        choose2_mono (inside_wider lines a (d + w) (a + d) w (a + d + i) (omega arith) (omega arith)),
        ap (λ c. choose2 (inside lines a (d + w) c)) e,
        earlier k a d i (omega arith) (omega arith),
        ap₂ D (ap (λ c. c + 1) e) (rest i u),
        x.bounds a (d + w) (d + i) (omega arith) (omega arith) (rw e g),
      ))
      (λ (f, z). omega arith)
      (x.picks.attains (a + d) w b)
    where
      rest : (i : ℕ) → i < w → d + w - (d + i + 1) ≡ w - (i + 1)
      rest i u = omega arith

  -- an interval that starts earlier has at least as many pairs
  pub earlier_le : (a d w : ℕ) → a + d + w ≤ m → D (a + d) w ≤ D a (d + w)
  earlier_le a d w = earlier (suc w) a d w (omega arith)

  apart : (k a v w : ℕ) → v < k → a + v + 1 + w ≤ m → D a v + D (a + v + 1) w ≤ D a (v + 1 + w)
  apart zero a v w n b = absurd (omega arith)
  apart (suc k) a v w n b =
      ⊎_elim
      (λ (u, g, s). taken (x.pick a v) u g s (apart k (a + x.pick a v + 1) (v - (x.pick a v + 1)) w (omega arith) (omega arith)))
      (λ (f, z). let e : a + v + 1 ≡ a + (v + 1) = omega arith in omega (arith, ap (λ c. D c w) e, earlier_le a (v + 1) w (omega arith)))
      (x.picks.attains a v (omega arith))
    where
      taken : (i : ℕ) → i < v → T (ok (a + i)) → split D lines a v i ≡ D a v
          → D (a + i + 1) (v - (i + 1)) + D (a + i + 1 + (v - (i + 1)) + 1) w ≤ D (a + i + 1) (v - (i + 1) + 1 + w)
          → D a v + D (a + v + 1) w ≤ D a (v + 1 + w)
      taken i u g s ih =
          let e : a + i + 1 + (v - (i + 1)) + 1 ≡ a + v + 1 = omega arith in
          let f : v + 1 + w - (i + 1) ≡ v - (i + 1) + 1 + w = omega arith in
          omega (
            arith,
            choose2_mono (inside_wider lines a (v + 1 + w) a v (a + i) (omega arith) (omega arith)),
            ap (λ c. D c w) e,
            ap (D (a + i + 1)) f,
            x.bounds a (v + 1 + w) i (omega arith) (omega arith) g,
          )

  -- an interval has at least the pairs of the two beside one of its tips, ok or not
  pub apart_le : (a v w : ℕ) → a + v + 1 + w ≤ m → D a v + D (a + v + 1) w ≤ D a (v + 1 + w)
  apart_le a v w = apart (suc v) a v w (omega arith)

  -- no interval has more pairs than the rack
  pub whole_le : (a w : ℕ) → a + w ≤ m → D a w ≤ D 0 m
  whole_le a w b = ⊎_elim
      (λ h. let e : a + w ≡ m = omega arith in
      omega (arith, ap (λ c. D c w) zero-add, ap (D 0) e, earlier_le 0 a w (omega arith)))
      (λ h. let v = w + 1 + (m - (a + w + 1)) in
      let e : a + v ≡ m = omega arith in
      omega (arith, apart_le a w (m - (a + w + 1)) (omega arith), ap (λ c. D c v) zero-add, ap (D 0) e, earlier_le 0 a v (omega arith)))
      (le_or_lt m (a + w))
    where
      zero-add : 0 + a ≡ a
      zero-add = omega arith

  -- for lines whose tips are ok, it is at least the split at a tip that is not ok too
  pub split_le : All (Line ok m) lines → Dominates (λ c. true) m lines D
  unfolding inside
  split_le ls a w i b u _ = ⊎_elim (x.bounds a w i b u) (λ n.
      let c = a + i in
      let e : i + 1 + (w - (i + 1)) ≡ w = omega arith in
      let f : ℕ → Bool = λ s. lies a w s && has s c in
      let z : inside lines a w c ≡ 0 = count_none f (all_map (λ s l h. T_not (ok c) n (l.fits c (and_right (lies a w s) (has s c) h))) ls) in
      omega (arith, ap choose2 z, choose2_square 0, ap (D a) e, apart_le a i (w - (i + 1)) (omega arith)))
      (test (ok (a + i)))
