-- The table is right column by column, and in a column from the diagonal up.
use Prim.Native.Nat.{ℕ, zero, suc, ◌+◌, ◌*◌, ◌-◌, ◌/◌, ◌%◌, ◌≤◌, ◌<◌}
use native.Mathlib.Omega.{arith}
use native.Mathlib.Nat.{div-lt_iff_lt-mul, mod-lt, div-add-mod'}
use mathlib.Core.Path.{◌≡◌, refl, ap, sym, ◌∙◌}
use mathlib.Core.Logic.{◌≢◌, ◌⊎◌, inl, inr}
use mathlib.Core.List.{List}
use lib.Arith.{digits_lt, digits_div, digits_mod}
use lib.ListN.{length, get_or, set, length-set, get_or-replicate}
use lib.Seq.{get_or-set_same, get_or-set_other}
use Rattle.model.specs.Limits.{most_placements, GoodPlacements}
use Rattle.model.specs.Interval.{inside, C, table}
use Rattle.model.proofs.Tests.{le_or_lt}
use Rattle.model.proofs.ListOf.{list_is}
use Rattle.model.proofs.Largest.{largest_cong}
use Rattle.model.proofs.Best.{C_zero, C-split}
use Rattle.model.proofs.Limits.{inside_few, C_few}
use Rattle.spans.specs.Spans.{sums_size, below, sum_at, RunSums}
use Rattle.spans.proofs.Below.{below_le, below_mono, inside_corners, length-sums, sums_at}
use Rattle.goal_rules.specs.Check.{entry}
use Rattle.table.specs.Cells.{split_of, allow, Differences, allows_of, column_size, zeros, table_at, cell_by}
use Rattle.table.specs.Cells.{Cell, Columns}
use Rattle.table.proofs.Listed.{listed_at, length-listed}

-- ---- places of the table

-- rows and columns of one place are the same
same_place : (m : ℕ) {d e a b : ℕ} → e < m → b < m → d * m + e ≡ a * m + b → (d ≡ a) × (e ≡ b)
same_place m {d} {e} {a} {b} h g p = (
  sym (digits_div d h) ∙ ap (λ k. k / m) p ∙ digits_div a g,
  sym (digits_mod d h) ∙ ap (λ k. k % m) p ∙ digits_mod a g,
)

pub length-zeros : length zeros ≡ column_size
unfolding zeros
length-zeros = refl

zeros-at : (k : ℕ) → k < column_size → get_or zeros k 0 ≡ 0
unfolding zeros
zeros-at k h = get_or-replicate column_size k 0 0 h

-- a width of 0
no_width : (lines : List ℕ) (a w : ℕ) → w ≡ 0 → C lines a w ≡ 0
no_width lines a w e = rw e (C_zero lines a)

module _ {m : ℕ} {lines : List ℕ} where
  -- all columns are right
  pub columns_all : {xs : List ℕ} → 0 < m → Columns m lines xs m → xs ≡ table m lines
  unfolding table
  columns_all {xs} p k = list_is _ (m * m) xs k.size (λ i h.
      let d : i / m < m = (div-lt_iff_lt-mul p).1 h in
      let e : i % m < m = mod-lt i p in
      ap (λ j. get_or xs j 0) (sym (div-add-mod' i m)) ∙ k.done (i / m) (i % m) d e e)

-- column b in the making: the rows from a on are right, in the table and in the list of the column
pub record Rows (m : ℕ) (lines table column : List ℕ) (b a : ℕ) : Type 0 where
  pub columns : Columns m lines table b
  pub here : (d : ℕ) → a ≤ d → d < m → table_at m table d b ≡ C lines d (b + 1 - d)
  pub room : length column ≡ column_size
  pub right : (d : ℕ) → a ≤ d → d ≤ b + 1 → get_or column d 0 ≡ C lines d (b + 1 - d)

-- and this for all lines that have these sums
abbrev pub RowsBy : ℕ → List ℕ → List ℕ → List ℕ → ℕ → ℕ → Type 0
RowsBy m xs table column b a = (lines : List ℕ) → RunSums m 0 lines xs → Rows m lines table column b a

module _ {m : ℕ} {lines xs : List ℕ} (k : RunSums m 0 lines xs) (b : ℕ) (ends : b < m) where
  good : GoodPlacements m lines
  good = k.good

  pub rows-first : {table : List ℕ} → Columns m lines table b → Rows m lines table zeros b (b + 1)
  rows-first r = record {
    columns = r;
    here = λ d h l. r.lower d b (omega arith) l ∙ sym (no_width lines d (b + 1 - d) (omega arith));
    room = length-zeros;
    right = λ d h l. zeros-at d (omega (arith, good.most)) ∙ sym (no_width lines d (b + 1 - d) (omega arith));
  }

  -- one row more
  pub rows_more : {table column : List ℕ} (a v : ℕ) → a ≤ b → v ≡ C lines a (b + 1 - a) → Rows m lines table column b (a + 1)
      → Rows m lines (set table (a * m + b) v) (set column a v) b a
  rows_more {table} {column} a v f e r = record {
    columns = record {
      size = rw length-set r.columns.size;
      done = λ d e h l g. other d e (λ p. omega (arith, same_place m g ends p)) ∙ r.columns.done d e h l g;
      lower = λ d e h g. other d e (λ p. omega (arith, same_place m {e = e} (omega arith) ends p)) ∙ r.columns.lower d e h g;
    };
    here = λ d h l. at_row d h l (le_or_lt d a);
    room = rw length-set r.room;
    right = λ d h l. in_column d h l (le_or_lt d a);
  }
    where
      other : (d e : ℕ) → d * m + e ≢ a * m + b → table_at m (set table (a * m + b) v) d e ≡ table_at m table d e
      other d e n = get_or-set_other table _ _ v 0 n

      at_row : (d : ℕ) → a ≤ d → d < m → (d ≤ a) ⊎ (a < d) → table_at m (set table (a * m + b) v) d b ≡ C lines d (b + 1 - d)
      at_row d h l (inl p) =
          let q : d ≡ a = omega arith in
          rw q (get_or-set_same table (a * m + b) v 0 (rw r.columns.size (digits_lt (omega arith) ends)) ∙ e)
      at_row d h l (inr p) = other d b (λ q. omega (arith, same_place m ends ends q)) ∙ r.here d (omega arith) l

      in_column : (d : ℕ) → a ≤ d → d ≤ b + 1 → (d ≤ a) ⊎ (a < d) → get_or (set column a v) d 0 ≡ C lines d (b + 1 - d)
      in_column d h l (inl p) =
          let q : d ≡ a = omega arith in
          rw q (get_or-set_same column a v 0 (omega (arith, r.room, good.most)) ∙ e)
      in_column d h l (inr p) = let n : d ≢ a = λ q. omega arith in get_or-set_other column a d v 0 n ∙ r.right d (omega arith) l

  -- ---- a cell from the allows, the sums, its row and its column

  sums-size : length xs ≡ sums_size m
  sums-size = ap length k.summed ∙ length-sums m lines

  sum_is : (x y : ℕ) → x ≤ b + 1 → y ≤ b + 1 → sum_at m xs x y ≡ below lines x y
  sum_is x y h g = rw k.summed (sums_at m lines x y (omega (arith, good.most)) (omega (arith, good.most)))

  few_below : (x y : ℕ) → below lines x y ≤ most_placements
  few_below x y = omega (arith, below_le lines x y, good.few)

  pub allows_ready : Differences m xs b zeros
  allows_ready = record {
    sums-size = sums-size;
    ends = ends;
    room = omega (arith, length-zeros, good.most);
    covers = λ c h.
        rw (sum_is (c + 1) c (omega arith) (omega arith), sum_is (c + 1) (b + 1) (omega arith) (omega arith))
        (below_mono lines (c + 1) c (b + 1) (omega arith));
  }

  allows_size : length (allows_of m xs b zeros) ≡ column_size
  unfolding allows_of
  allows_size = length-listed (allow m xs b) (b + 1) zeros (omega (arith, length-zeros, good.most)) ∙ length-zeros

  allows_at : (c : ℕ) → c ≤ b → get_or (allows_of m xs b zeros) c 0 ≡ below lines (c + 1) (b + 1) - below lines (c + 1) c
  unfolding allows_of
  allows_at c h =
      listed_at (allow m xs b) (b + 1) zeros c (omega arith)
      ∙ rw (sum_is (c + 1) c (omega arith) (omega arith), sum_is (c + 1) (b + 1) (omega arith) (omega arith))

  module _ {allows table column : List ℕ} (counted : allows ≡ allows_of m xs b zeros) (a : ℕ) (from : a ≤ b)
      (r : Rows m lines table column b (a + 1)) where
    -- the numbers of the split at tip a + i
    record Numbers (i : ℕ) : Type 0 where
      pub lines_of : get_or allows (a + i) 0 + sum_at m xs a (a + i) ≡ sum_at m xs a (b + 1) + inside lines a (b + 1 - a) (a + i)
      pub small : get_or allows (a + i) 0 + sum_at m xs a (a + i) ≤ 2 * most_placements
      pub left : entry m table a i ≡ C lines a i
      pub right : get_or column (a + i + 1) 0 ≡ C lines (a + i + 1) (b + 1 - a - (i + 1))

    left_is : (i : ℕ) → i < b + 1 - a → entry m table a i ≡ C lines a i
    unfolding entry
    left_is zero h = sym (C_zero lines a)
    left_is (suc j) h =
        let e : a + j + 1 - a ≡ suc j = omega arith in
        rw e at (r.columns.done a (a + j) (omega arith) (omega arith) (omega arith))

    numbers : (i : ℕ) → i < b + 1 - a → Numbers i
    numbers i h =
        let c = a + i in
        let g = ap (λ l. get_or l c 0) counted ∙ allows_at c (omega arith) in
        let s = sum_is a c (omega arith) (omega arith) in
        let t = sum_is a (b + 1) (omega arith) (omega arith) in
        let e : a + (b + 1 - a) ≡ b + 1 = omega arith in
        let w : b + 1 - (a + i + 1) ≡ b + 1 - a - (i + 1) = omega arith in
        let p = inside_corners lines good.most good.domains k.runs a (b + 1 - a) c (omega arith) (omega arith) in
        record {
          lines_of = omega (arith, g, s, t, rw e at p, below_mono lines (c + 1) c (b + 1) (omega arith));
          small = omega (arith, g, s, few_below (c + 1) (b + 1), few_below a c);
          left = left_is i h;
          right = rw w at (r.right (a + i + 1) (omega arith) (omega arith));
        }

    pub cell_ready : Cell m a b xs allows column table
    cell_ready = record {
      rack = good.most;
      ends = ends;
      from = from;
      sums-size = sums-size;
      allows_size = ap length counted ∙ allows_size;
      column-size = r.room;
      table_size = r.columns.size;
      small = λ i h.
          let n = numbers i h in
          record {
            covers = omega arith;
            few = omega (arith, inside_few lines good.few a (b + 1 - a) (a + i));
            fits = n.small;
            lefts = omega (arith, C_few lines good.few a i (omega (arith, good.most)));
            rights = omega (arith, C_few lines good.few (a + i + 1) (b + 1 - a - (i + 1)) (omega (arith, good.most)));
          };
    }

    -- THE CELL is the most pairs of the interval
    pub cell_right : {v : ℕ} → v ≡ cell_by m a b xs allows column table → v ≡ C lines a (b + 1 - a)
    unfolding cell_by split_of
    cell_right e = e ∙ largest_cong _ _ (b + 1 - a) (λ i h.
        let n = numbers i h in
        let p : get_or allows (a + i) 0 + sum_at m xs a (a + i) - sum_at m xs a (b + 1) ≡ inside lines a (b + 1 - a) (a + i) = omega arith in
        rw (p, n.left, n.right)) ∙ sym (C-split lines a (b + 1 - a))
