-- The table spread place by place, from the last: what is read stands at the place that is written, or before it.
use Prim.Native.Nat.{ℕ, ◌+◌, ◌-◌, ◌*◌, ◌/◌, ◌%◌, ◌≤◌, ◌<◌}
use native.Mathlib.Omega.{arith}
use native.Mathlib.Numerals.{add-one}
use native.Mathlib.Nat.{div-add-mod', div-lt_iff_lt-mul, mod-lt, mul-le-mul, mul-le-mul_right, suc-mul}
use mathlib.Core.Path.{◌≡◌, refl, ap, sym, ◌∙◌}
use mathlib.Core.Logic.{⊎_elim}
use mathlib.Core.Bool.{Bool, false, cond}
use mathlib.Core.List.{List}
use mir.Val.{bool_byte}
use lib.Arith.{digits_lt}
use lib.ListN.{length, get_or, set, length-set}
use lib.Seq.{get_or-set_same, get_or-set_other}
use borrow.Author.Tests.{lt-ltb, le-ltb}
use Rattle.model.specs.Plan.{has}
use Rattle.model.specs.Renumber.{rank}
use Rattle.model.proofs.Tests.{le_or_lt}
use Rattle.model.proofs.ListOf.{list_is}
use Rattle.model.proofs.Rank.{rank_le, rank-more}
use Rattle.ranks.proofs.Listed.{rank_next}
use Rattle.spread.specs.Spread.{cell_at, cell_of, spread, RowDone, RowCopied, RowsDone}

-- THE PLACE READ for the tips a and e is not behind their place
pub read_place : (ok : ℕ → Bool) (m a e : ℕ) → rank ok a < rank ok (e + 1) → rank ok a * rank ok m + (rank ok (e + 1) - 1) ≤ a * m + e
read_place ok m a e l =
    omega (
      arith,
      mul-le-mul {n₁ = rank ok a} {m₁ = rank ok m} {n₂ = a} {m₂ = m} (rank_le ok a) (rank_le ok m),
      rank_le ok (e + 1),
    )

-- each place of a row is in the table
pub place : (m a b : ℕ) → a < m → 0 < b → b ≤ m → a * m + (b - 1) < m * m
place m a b inside some within = digits_lt {q = a} {m = m} {r = b - 1} {c = m} inside (omega arith)

pub read_room : (ok : ℕ → Bool) (m a b : ℕ) → a < m → 0 < b → b ≤ m → rank ok a < rank ok b
    → rank ok a * rank ok m + (rank ok b - 1) < m * m
read_room ok m a b inside some within l =
    let e : b - 1 + 1 ≡ b = omega arith in
    let h = read_place ok m a (b - 1) in
    omega (arith, place m a b inside some within, (rw e at h) l)

-- the rank of a tip from that of the next: one less where the test passes, as usize::from counts it
pub rank_back : (ok : ℕ → Bool) (b : ℕ) → 0 < b → {t : Bool} {r n : ℕ} → r ≡ rank ok b → t ≡ ok (b - 1) → n ≡ bool_byte t
    → r ≡ rank ok (b - 1) + n
rank_back ok b some {t} {r} {n} e f g =
    let h : b - 1 + 1 ≡ b = omega arith in
    e ∙ sym (rw h at (rank_next ok (b - 1) refl f g))

-- two tables that agree there have the same number
pub cell_same : (ok : ℕ → Bool) (m r : ℕ) → r ≡ rank ok m → (xs ys : List ℕ) (a e : ℕ)
    → ((k : ℕ) → k ≤ a * m + e → get_or xs k 0 ≡ get_or ys k 0) → cell_of ok r xs a e ≡ cell_of ok r ys a e
unfolding cell_of cell_at
cell_same ok m r q xs ys a e h =
    ⊎_elim
    (λ p. rw (le-ltb (rank ok a) (rank ok (e + 1)) p))
    (λ p. rw (lt-ltb (rank ok a) (rank ok (e + 1)) p, q) (h _ (read_place ok m a e p)))
    (le_or_lt (rank ok (e + 1)) (rank ok a))

-- a row
module _ (s m r a : ℕ) (q : r ≡ rank (has s) m) (old : List ℕ) where
  module _ (b : ℕ) (some : 0 < b) (within : b ≤ m) {table : List ℕ} (d : RowDone s m r a b old table) where
    -- what is read is what stood there
    pub row_read : cell_at r table (rank (has s) a) (rank (has s) b) ≡ cell_of (has s) r old a (b - 1)
    unfolding cell_of
    row_read =
        let e : b - 1 + 1 ≡ b = omega arith in
        ap (λ x. cell_at r table (rank (has s) a) (rank (has s) x)) (sym e)
        ∙ cell_same (has s) m r q table old a (b - 1) (λ k l. d.early k (omega arith))

    -- one place more is spread
    pub row_more : a < m → length old ≡ m * m → {v : ℕ} → v ≡ cell_of (has s) r old a (b - 1)
        → RowDone s m r a (b - 1) old (set table (a * m + (b - 1)) v)
    row_more inside size {v} is = record {
      size = length-set table (a * m + (b - 1)) v ∙ d.size;
      done = λ e p l.
          ⊎_elim
          (λ x. get_or-set_other table (a * m + (b - 1)) (a * m + e) v 0 (λ z. omega arith) ∙ d.done e x l)
          (λ x. let z : e ≡ b - 1 = omega arith in rw z (get_or-set_same table (a * m + (b - 1)) v 0 room ∙ is))
          (le_or_lt b e);
      early = λ k l. get_or-set_other table (a * m + (b - 1)) k v 0 (λ z. omega arith) ∙ d.early k (omega arith);
      late = λ k l. get_or-set_other table (a * m + (b - 1)) k v 0 (λ z. omega arith) ∙ d.late k l;
    }
      where
        room : a * m + (b - 1) < length table
        room = omega (arith, place m a b inside some within, d.size, size)

-- where the next row begins
next_row : (m a : ℕ) → (a + 1) * m ≡ a * m + m
next_row m a = ap (λ x. x * m) (add-one a) ∙ suc-mul a m

-- all rows
module _ (s m r : ℕ) (q : r ≡ rank (has s) m) (old : List ℕ) where
  module _ (a : ℕ) {table table' : List ℕ} (d : RowsDone s m r (a + 1) old table) where
    -- one row more is spread
    pub rows_more : RowDone s m r a 0 table table' → RowsDone s m r a old table'
    rows_more row = record {
      size = row.size ∙ d.size;
      done = λ c e p l x.
          ⊎_elim
          (λ y. row.late (c * m + e) (omega (arith, next_row m a, mul-le-mul_right m y)) ∙ d.done c e y l x)
          (λ y. let z : c ≡ a = omega arith in
          rw z (row.done e (omega arith) x ∙ cell_same (has s) m r q table old a e (λ k h. d.early k (omega (arith, next_row m a)))))
          (le_or_lt (a + 1) c);
      early = λ k l. row.early k (omega arith) ∙ d.early k (omega (arith, next_row m a));
    }

    -- and so by a copy of the next row, where tip a is not named
    pub rows_copied : a + 1 < m → has s a ≡ false → RowCopied m a m table table' → RowsDone s m r a old table'
    unfolding cell_of
    rows_copied inside f row = record {
      size = row.size ∙ d.size;
      done = λ c e p l x.
          ⊎_elim
          (λ y. row.late (c * m + e) (omega (arith, next_row m a, mul-le-mul_right m y)) ∙ d.done c e y l x)
          (λ y. let z : c ≡ a = omega arith in
          let k : a * m + m + e ≡ (a + 1) * m + e = omega (arith, next_row m a) in
          let n : rank (has s) (a + 1) ≡ rank (has s) a = omega (arith, rank-more (has s) a, ap {B = ℕ} (λ b. cond b 1 0) f) in
          rw z (row.done e x ∙ ap (λ i. get_or table i 0) k ∙ d.done (a + 1) e (omega arith) inside x
          ∙ ap (λ i. cell_at r old i (rank (has s) (e + 1))) n))
          (le_or_lt (a + 1) c);
      early = λ k l. row.early k l ∙ d.early k (omega (arith, next_row m a));
    }

  -- THE TABLE IS SPREAD
  pub rows_all : {table : List ℕ} → length old ≡ m * m → RowsDone s m r 0 old table → table ≡ spread (has s) m r old
  unfolding spread
  rows_all {table} size d = list_is _ (m * m) table (d.size ∙ size) at
    where
      at : (k : ℕ) → k < m * m → get_or table k 0 ≡ cell_of (has s) r old (k / m) (k % m)
      at k l =
          let some : 0 < m = positive m l in
          rw (div-add-mod' k m) at (d.done (k / m) (k % m) (omega arith) ((div-lt_iff_lt-mul some).1 l) (mod-lt k some))
        where
          positive : (m : ℕ) → k < m * m → 0 < m
          positive m l = ⊎_elim (λ z. let e : m ≡ 0 = omega arith in absurd (omega (arith, ap (λ x. x * x) e))) (λ p. p) (le_or_lt m 0)
