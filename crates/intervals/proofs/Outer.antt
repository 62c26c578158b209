-- The outside table grows by one interval.
use Prim.Native.Nat.{ℕ, zero, suc, ◌+◌, ◌*◌, ◌-◌, ◌≤◌, ◌<◌, max}
use native.Mathlib.Omega.{arith}
use mathlib.Core.Path.{◌≡◌, ap, ap₂, sym, ◌∙◌}
use mathlib.Core.Logic.{⊎_elim}
use mathlib.Core.Bool.{Bool, cond}
use mathlib.Core.List.{List}
use lib.ListN.{length, set, length-set}
use Rattle.model.specs.Limits.{most_tips, most_pairs}
use Rattle.model.specs.Plan.{choose2}
use Rattle.model.specs.Choice.{bare}
use Rattle.model.specs.Interval.{inside, split, C}
use Rattle.model.proofs.Tests.{le_or_lt}
use Rattle.model.proofs.Largest.{largest_cong, largest_ge}
use Rattle.model.proofs.Limits.{C_few}
use Rattle.model.proofs.Best.{C-split}
use Rattle.goal_rules.specs.Tables.{before, behind, Out, always, Chained}
use Rattle.goal_rules.proofs.Solved.{C_solved, whole_le}
use Rattle.goal_rules.proofs.Outer.{largest_le, Out_is, Out_open, Out_le}
use Rattle.spans.specs.Spans.{RunSums}
use Rattle.spans.proofs.Read.{run_lines}
use Rattle.intervals.specs.Splits.{pairs_by, InsideAll}
use Rattle.intervals.specs.Outer.{outside_by, around_by, Outside}
use Rattle.intervals.proofs.Read.{pairs_same}
use Rattle.intervals.proofs.Entry.{place, stored, kept}

-- an interval and the chain of splits outside it have at most the pairs of the rack
module _ {m q : ℕ} {lines xs : List ℕ} (k : RunSums m q lines xs) where
  abbrev D : ℕ → ℕ → ℕ
  D = C lines

  abbrev O : ℕ → ℕ → ℕ
  O = Out always m D lines

  splits : (a w i : ℕ) → i < w → split D lines a w i ≤ D a w
  splits a w i l = rw (C-split lines a w) (largest_ge (split D lines a w) w i l)

  module _ (a w : ℕ) (b : a + w ≤ m) (wider : (c v : ℕ) → w < v → c + v ≤ m → O c v + D c v ≤ D 0 m) where
    by_before : (j : ℕ) → j < m - (a + w) → before O D lines a w j + D a w ≤ D 0 m
    by_before j l =
        let v = w + 1 + j in
        let e : v - (w + 1) ≡ j = omega arith in
        omega (arith, wider a v (omega arith) (omega arith), splits a v w (omega arith), ap (D (a + w + 1)) e)

    by-behind : (j : ℕ) → j < a → behind O D lines a w j + D a w ≤ D 0 m
    by-behind j l =
        let v = a - j + w in
        let i = a - (j + 1) in
        let c : j + i ≡ a - 1 = omega arith in
        let s : j + i + 1 ≡ a = omega arith in
        let e : v - (i + 1) ≡ w = omega arith in
        omega (
          arith,
          wider j v (omega arith) (omega arith),
          splits j v i (omega arith),
          ap (λ x. choose2 (inside lines j v x)) c,
          ap₂ D s e,
        )

    chain_step : O a w + D a w ≤ D 0 m
    chain_step =
        let whole = whole_le (C_solved bare m lines (run_lines k)) a w b in
        omega (
          arith,
          Out_le always m D lines a w b,
          largest_le (before O D lines a w) (m - (a + w)) whole by_before,
          largest_le (behind O D lines a w) a whole by-behind,
        )

  chain : (n a w : ℕ) → m - w ≤ n → a + w ≤ m → O a w + D a w ≤ D 0 m
  chain zero a w h b = chain_step a w b (λ c v x y. absurd (omega arith))
  chain (suc n) a w h b = chain_step a w b (λ c v x y. chain n c v (omega arith) y)

  -- so the outside table has small numbers
  pub Out_few : (a w : ℕ) → a + w ≤ m → O a w ≤ most_tips * most_pairs
  Out_few a w b = omega (arith, chain (m - w) a w (omega arith) b, C_few lines (omega (arith, k.few)) 0 m k.good.most)

module _ {m q : ℕ} {lines rest xs : List ℕ} (k : RunSums m q rest xs) {inner : List ℕ} (i : InsideAll m lines inner)
    {is_open : ℕ → ℕ → ℕ → Bool} {outer : List ℕ} {w a : ℕ} (o : Outside m is_open (C lines) rest outer w a) (p : 0 < w) (b : a + w ≤ m) where
  on_tip : (e v c : ℕ) → e + v ≤ m → e ≤ c → c < e + v → pairs_by m xs 0 e v c ≡ choose2 (inside rest e v c)
  on_tip e v c x y z =
      let n : inside rest e v c + 0 ≡ inside rest e v c = omega arith in
      pairs_same k 0 e v c x y z ∙ ap choose2 n

  -- what is found by the sums and the two tables
  pub around_same : around_by m xs inner outer a w ≡ Chained is_open m (C lines) rest a w
  unfolding outside_by
  around_same = ap₂ max
      (largest_cong _ _ (m - (a + w)) (λ j l. omega (
        arith,
        o.wider a (w + 1 + j) (omega arith) (omega arith),
        on_tip a (w + 1 + j) (a + w) (omega arith) (omega arith) (omega arith),
        i.entries (a + w + 1) j (omega arith),
      )))
      (largest_cong _ _ a (λ j l. omega (
        arith,
        o.wider j (a - j + w) (omega arith) (omega arith),
        on_tip j (a - j + w) (a - 1) (omega arith) (omega arith) (omega arith),
        i.entries j (a - (j + 1)) (omega arith),
      )))

  -- one interval more
  pub outside_more : {v : ℕ} → v ≡ cond (is_open a w (around_by m xs inner outer a w)) (around_by m xs inner outer a w) 0
      → Outside m is_open (C lines) rest (set outer (place m a w) v) w (a + 1)
  outside_more {v} e = record {
    room = rw length-set o.room;
    wider = λ c x l g. kept m a w p b outer o.room v c x g (λ _ z. omega arith) ∙ o.wider c x l g;
    row = λ c l g. ⊎_elim
        (λ y. let z : a ≡ c = omega arith in rw (← z) (stored m a w p b outer o.room v ∙ e ∙ value))
        (λ y. kept m a w p b outer o.room v c w g (λ z _. omega arith) ∙ o.row c y g)
        (le_or_lt a c);
  }
    where
      value : cond (is_open a w (around_by m xs inner outer a w)) (around_by m xs inner outer a w) 0 ≡ Out is_open m (C lines) rest a w
      value = ap (λ x. cond (is_open a w x) x 0) around_same ∙ sym (Out_is is_open m (C lines) rest a w b)

-- of all lines, and every interval: the numbers are small
pub out_few : {m : ℕ} {lines xs : List ℕ} (k : RunSums m 0 lines xs) {inner : List ℕ} (i : InsideAll m lines inner)
    {outer : List ℕ} {w a : ℕ} (o : Outside m always (C lines) lines outer w a) → 0 < w → a + w ≤ m
    → around_by m xs inner outer a w ≤ most_tips * most_pairs
out_few {m = m} {lines} k i {w = w} {a} o p b =
    omega (arith, around_same k i o p b, Out_open always m (C lines) lines a w b tt, Out_few k a w b)

-- a whole row: all intervals of a width one less come next
pub outside_next : {m : ℕ} {is_open : ℕ → ℕ → ℕ → Bool} {D : ℕ → ℕ → ℕ} {lines tab : List ℕ} {w a : ℕ} → 0 < w → m < a + w
    → Outside m is_open D lines tab w a → Outside m is_open D lines tab (w - 1) 0
outside_next {m} {w = w} p h o = record {
  room = o.room;
  wider = λ c x l g. ⊎_elim
      (λ y. let z : w ≡ x = omega arith in rw (← z) (o.row c (omega arith) (omega arith)))
      (λ y. o.wider c x y g)
      (le_or_lt x w);
  row = λ c l g. absurd (omega arith);
}

-- at first: no interval is wider than the rack
pub outside_first : {m : ℕ} (is_open : ℕ → ℕ → ℕ → Bool) (D : ℕ → ℕ → ℕ) (lines tab : List ℕ) → m * m ≤ length tab → Outside m is_open D lines tab m 0
outside_first {m} is_open D lines tab e =
    record { room = e; wider = λ c x l g. absurd (omega arith); row = λ c l g. absurd (omega arith) }
