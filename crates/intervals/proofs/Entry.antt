-- The entry of an interval in a table: its place, what is stored there, and the table of best sharing.
use Prim.Native.Nat.{ℕ, zero, suc, ◌+◌, ◌*◌, ◌-◌, ◌/◌, ◌%◌, ◌≤◌, ◌<◌}
use native.Mathlib.Omega.{arith}
use native.Mathlib.Nat.{mul-le-mul_right}
use mathlib.Core.Path.{◌≡◌, refl, ap, sym, ◌∙◌}
use mathlib.Core.Logic.{◌≢◌}
use mathlib.Core.List.{List}
use lib.Arith.{digits_div, digits_mod}
use lib.ListN.{length, get_or, set}
use lib.Seq.{get_or-set_same, get_or-set_other}
use Rattle.model.specs.Interval.{C, table}
use Rattle.model.proofs.Best.{C_zero}
use Rattle.model.proofs.Table.{length-table, table_at}
use Rattle.goal_rules.specs.Check.{entry}
use Rattle.intervals.specs.Splits.{InsideAll}

-- the place of an interval with a tip is in the table
pub place_lt : (m a w : ℕ) → 0 < w → a + w ≤ m → a * m + (a + (w - 1)) < m * m
place_lt m a w some ends =
    let g : suc a ≤ m = omega arith in
    omega (arith, mul-le-mul_right m g)

-- and its entry is there
pub entry_some : (m : ℕ) (tab : List ℕ) (a w : ℕ) → 0 < w → entry m tab a w ≡ get_or tab (a * m + (a + (w - 1))) 0
unfolding entry
entry_some m tab a zero h = absurd (omega arith)
entry_some m tab a (suc w) h =
    let e : w ≡ suc w - 1 = omega arith in
    ap (λ k. get_or tab (a * m + (a + k)) 0) e

-- ---- storing one entry

-- the place of an interval that has a tip
abbrev pub place : ℕ → ℕ → ℕ → ℕ
place m a w = a * m + (a + (w - 1))

-- different intervals have different places
place_same : (m a w b v : ℕ) → 0 < w → a + w ≤ m → 0 < v → b + v ≤ m → place m a w ≡ place m b v → (a ≡ b) × (w ≡ v)
place_same m a w b v p h q g e =
    let x : a + (w - 1) < m = omega arith in
    let y : b + (v - 1) < m = omega arith in
    let i : a ≡ b = sym (digits_div a x) ∙ ap (λ k. k / m) e ∙ digits_div b y in
    let j : a + (w - 1) ≡ b + (v - 1) = sym (digits_mod a x) ∙ ap (λ k. k % m) e ∙ digits_mod b y in
    (i, omega arith)

module _ (m a w : ℕ) (p : 0 < w) (h : a + w ≤ m) (tab : List ℕ) (room : m * m ≤ length tab) (v : ℕ) where
  pub stored : entry m (set tab (place m a w) v) a w ≡ v
  stored =
      let l : place m a w < length tab = omega (arith, place_lt m a w p h) in
      entry_some m (set tab (place m a w) v) a w p ∙ get_or-set_same tab (place m a w) v 0 l

  pub kept : (b x : ℕ) → b + x ≤ m → (a ≡ b → w ≡ x → ⊥) → entry m (set tab (place m a w) v) b x ≡ entry m tab b x
  unfolding entry
  kept b zero g n = refl
  kept b (suc x) g n =
      let q : 0 < suc x = omega arith in
      let d : place m b (suc x) ≢ place m a w = λ e. let s = place_same m a w b (suc x) p h q g (sym e) in n s.0 s.1 in
      entry_some m (set tab (place m a w) v) b (suc x) q ∙ get_or-set_other tab (place m a w) (place m b (suc x)) v 0 d
      ∙ sym (entry_some m tab b (suc x) q)

-- THE INSIDE TABLE is that of best sharing
pub inside-all : {m : ℕ} {lines tab : List ℕ} → tab ≡ table m lines → InsideAll m lines tab
unfolding entry
inside-all {m} {lines} {tab} e = record { room = omega (arith, ap length e, length-table m lines); entries = go }
  where
    go : (a w : ℕ) → a + w ≤ m → entry m tab a w ≡ C lines a w
    go a zero b = sym (C_zero lines a)
    go a (suc w) b =
        let n : a + w + 1 - a ≡ suc w = omega arith in
        rw e (rw n at (table_at m lines a (a + w) (omega arith) (omega arith)))
