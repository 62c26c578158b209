-- The outside table: its equation, and the pairs outside the two intervals beside a tip; with fewer lines it has fewer pairs.
use Prim.Native.Nat.{ℕ, zero, suc, ◌+◌, ◌-◌, ◌≤◌, ◌<◌, max}
use native.Mathlib.Omega.{arith}
use mathlib.Core.Path.{◌≡◌, refl, ap, ap₂, sym, ◌∙◌}
use mathlib.Core.Bool.{Bool, true, false, cond}
use mathlib.Core.List.{List}
use Rattle.model.specs.Count.{largest}
use Rattle.model.specs.Plan.{choose2}
use Rattle.model.specs.Interval.{inside}
use Rattle.model.proofs.Tests.{true_T, cond_case}
use Rattle.model.proofs.Largest.{largest_ge, largest_mono, largest_cong}
use Rattle.model.proofs.Pairs.{choose2_mono}
use Rattle.goal_rules.specs.Tables.{before, behind, around, outer, Out, always, Chained, Opened}

-- the largest, with x more, is at most y where each is, and x is
pub largest_le : (f : ℕ → ℕ) (n : ℕ) {x y : ℕ} → x ≤ y → ((j : ℕ) → j < n → f j + x ≤ y) → largest f n + x ≤ y
unfolding largest
largest_le f zero h g = omega arith
largest_le f (suc n) h g = omega (arith, largest_le f n h (λ j l. g j (omega arith)), g n (omega arith))

-- a choice between nothing and nothing
cond-none : (b : Bool) → ◌≡◌ {A = ℕ} (cond b 0 0) 0
cond-none true = refl
cond-none false = refl

module _ (is_open : ℕ → ℕ → ℕ → Bool) (m : ℕ) (D : ℕ → ℕ → ℕ) (lines : List ℕ) where
  -- k does not count once it is at least the number of tips outside
  outer_same : (k j a w : ℕ) → m - w ≤ k → m - w ≤ j → a + w ≤ m → outer k is_open m D lines a w ≡ outer j is_open m D lines a w
  unfolding outer largest
  outer_same zero zero a w h g b = refl
  outer_same zero (suc j) a w h g b =
      let e : m - (a + w) ≡ 0 = omega arith in
      let z : a ≡ 0 = omega arith in
      rw (e, z) (sym (cond-none (is_open 0 w 0)))
  outer_same (suc k) zero a w h g b =
      let e : m - (a + w) ≡ 0 = omega arith in
      let z : a ≡ 0 = omega arith in
      rw (e, z) (cond-none (is_open 0 w 0))
  outer_same (suc k) (suc j) a w h g b = ap (λ x. cond (is_open a w x) x 0) (ap₂ max
      (largest_cong _ _ (m - (a + w)) (λ i l. omega (arith, outer_same k j a (w + 1 + i) (omega arith) (omega arith) (omega arith))))
      (largest_cong _ _ a (λ i l. omega (arith, outer_same k j i (a - i + w) (omega arith) (omega arith) (omega arith)))))

  -- the equation of the outside table
  pub Out_is : (a w : ℕ) → a + w ≤ m → Out is_open m D lines a w
      ≡ cond (is_open a w (Chained is_open m D lines a w)) (Chained is_open m D lines a w) 0
  unfolding Out outer
  Out_is a w b = outer_same (m - w) (suc (m - w)) a w (omega arith) (omega arith) b ∙ ap (λ x. cond (is_open a w x) x 0) (ap₂ max
      (largest_cong _ _ (m - (a + w)) (λ i l. omega (arith, wider a (w + 1 + i) (omega arith) (omega arith))))
      (largest_cong _ _ a (λ i l. omega (arith, wider i (a - i + w) (omega arith) (omega arith)))))
    where
      wider : (c v : ℕ) → w ≤ v → c + v ≤ m → outer (m - w) is_open m D lines c v ≡ outer (m - v) is_open m D lines c v
      wider c v g h = outer_same (m - w) (m - v) c v (omega arith) (omega arith) h

  -- where the interval is open, and in any case
  pub Out_open : (a w : ℕ) → a + w ≤ m → Opened is_open m D lines a w → Out is_open m D lines a w ≡ Chained is_open m D lines a w
  Out_open a w b o =
      let v = Chained is_open m D lines a w in
      Out_is a w b ∙ ap (λ t. cond t v 0) (true_T (is_open a w v) o)

  pub Out_le : (a w : ℕ) → a + w ≤ m → Out is_open m D lines a w ≤ Chained is_open m D lines a w
  Out_le a w b =
      let v = Chained is_open m D lines a w in
      omega (arith, Out_is a w b, cond_case (λ x. x ≤ v) (is_open a w v) {x = v} {y = 0} (λ _. omega arith) (λ _. omega arith))

module _ (m : ℕ) (O D : ℕ → ℕ → ℕ) (lines : List ℕ) (a w i : ℕ) (l : i < w) (b : a + w ≤ m) where
  -- the interval before a tip of an interval
  pub around-before : O a w + (choose2 (inside lines a w (a + i)) + D (a + i + 1) (w - (i + 1))) ≤ around m O D lines a i
  around-before =
      let j = w - (i + 1) in
      let e : i + 1 + j ≡ w = omega arith in
      let g = largest_ge (before O D lines a i) (m - (a + i)) j (omega arith) in
      omega (arith, rw e at g)

  -- and the one behind it
  pub around-behind : O a w + (choose2 (inside lines a w (a + i)) + D a i) ≤ around m O D lines (a + i + 1) (w - (i + 1))
  around-behind =
      let c = a + i + 1 in
      let v = w - (i + 1) in
      let e : c - a + v ≡ w = omega arith in
      let f : c - 1 ≡ a + i = omega arith in
      let h : c - (a + 1) ≡ i = omega arith in
      let g = largest_ge (behind O D lines c v) c a (omega arith) in
      omega (arith, rw (e, f, h) at g)

-- with fewer lines and fewer outside wider intervals there are fewer outside this one
pub around_mono : (m : ℕ) (O U D : ℕ → ℕ → ℕ) (rest lines : List ℕ) (a w : ℕ) → a + w ≤ m
    → ((c v : ℕ) → w < v → c + v ≤ m → O c v ≤ U c v) → ((c v t : ℕ) → inside rest c v t ≤ inside lines c v t)
    → around m O D rest a w ≤ around m U D lines a w
around_mono m O U D rest lines a w b wider fewer = omega (
  arith,
  largest_mono (before O D rest a w) (before U D lines a w) (m - (a + w)) (λ j l. omega (
    arith,
    wider a (w + 1 + j) (omega arith) (omega arith),
    choose2_mono (fewer a (w + 1 + j) (a + w)),
  )),
  largest_mono (behind O D rest a w) (behind U D lines a w) a (λ j l. omega (
    arith,
    wider j (a - j + w) (omega arith) (omega arith),
    choose2_mono (fewer j (a - j + w) (a - 1)),
  )),
)

module _ (is_open : ℕ → ℕ → ℕ → Bool) (m : ℕ) (D : ℕ → ℕ → ℕ) (rest lines : List ℕ)
    (fewer : (c v t : ℕ) → inside rest c v t ≤ inside lines c v t) where
  -- the outside table of all lines, where every interval is open
  abbrev U : ℕ → ℕ → ℕ
  U = Out always m D lines

  abbrev O : ℕ → ℕ → ℕ
  O = Out is_open m D rest

  step_le : (a w : ℕ) → a + w ≤ m → ((c v : ℕ) → w < v → c + v ≤ m → O c v ≤ U c v) → around m O D rest a w ≤ U a w
  step_le a w b wider = omega (arith, around_mono m O U D rest lines a w b wider fewer, Out_open always m D lines a w b tt)

  Out_mono : (k a w : ℕ) → m - w ≤ k → a + w ≤ m → O a w ≤ U a w
  Out_mono zero a w h b = omega (arith, Out_le is_open m D rest a w b, step_le a w b (λ c v x y. absurd (omega arith)))
  Out_mono (suc k) a w h b = omega (arith, Out_le is_open m D rest a w b, step_le a w b (λ c v x y. Out_mono k c v (omega arith) y))

  -- it is at least each step of the outside table of some of them
  pub around_le : (a w : ℕ) → a + w ≤ m → around m O D rest a w ≤ U a w
  around_le a w b = step_le a w b (λ c v x y. Out_mono (m - v) c v (omega arith) y)
