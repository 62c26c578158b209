-- A cell from parts of the lists: the split at the interval's first tip, and the splits at the others.
use Prim.Native.Nat.{ℕ, suc, ◌+◌, ◌*◌, ◌-◌, ◌≤◌, ◌<◌, max}
use native.Mathlib.Omega.{arith}
use native.Mathlib.Nat.{mul-le-mul}
use mathlib.Core.Path.{◌≡◌, ◌∙◌}
use mathlib.Core.List.{List}
use lib.Arith.{digits_lt}
use lib.ListN.{length, get_or}
use Rattle.model.specs.Limits.{most_tips}
use Rattle.model.specs.Count.{largest}
use Rattle.model.proofs.Loops.{part, part_length, part_at}
use Rattle.model.proofs.Largest.{largest_cong, largest-first}
use Rattle.spans.specs.Spans.{sums_width, sums_size, sum_at}
use Rattle.spans.proofs.Below.{sums_mono}
use Rattle.goal_rules.specs.Check.{entry}
use Rattle.table.specs.Cells.{split_of, split_at, largest_at, SplitLists, split_from, cell_by, Cell}

module _ {m a b : ℕ} {xs allows column table : List ℕ} (k : Cell m a b xs allows column table) where
  -- the places of row a are in the table, which is not large
  pub cell_in : (a * m + b < m * m) × (m * m ≤ most_tips * most_tips)
  cell_in = (digits_lt {q = a} {m = m} {r = b} {c = m} (omega arith) (omega arith), mul-le-mul k.rack k.rack)

  -- the places of row a are in the sums, which are not many
  pub sum_in : (a * sums_width m + (b + 1) < length xs) × (length xs ≤ sums_size most_tips)
  sum_in = rw k.sums-size (digits_lt (omega arith) (omega arith), sums_mono k.rack)

  -- the parts of the lists for the tips after a
  abbrev allow-part : List ℕ
  allow-part = part (a + 1) (b + 1) allows

  abbrev sum-part : List ℕ
  sum-part = part (a * sums_width m + (a + 1)) (a * sums_width m + (b + 1)) xs

  abbrev left-part : List ℕ
  left-part = part (a * m + a) (a * m + b) table

  abbrev right_part : List ℕ
  right_part = part (a + 2) (b + 2) column

  allow-at : (i : ℕ) → i < b - a → get_or allow-part i 0 ≡ get_or allows (a + suc i) 0
  allow-at i h = part_at allows (a + 1) (b + 1) i (a + suc i) (omega arith) (omega arith)

  sum-at : (i : ℕ) → i < b - a → get_or sum-part i 0 ≡ sum_at m xs a (a + suc i)
  sum-at i h = part_at xs (a * sums_width m + (a + 1)) (a * sums_width m + (b + 1)) i (a * sums_width m + (a + suc i)) (omega arith) (omega arith)

  left_at : (i : ℕ) → i < b - a → get_or left-part i 0 ≡ entry m table a (suc i)
  unfolding entry
  left_at i h = part_at table (a * m + a) (a * m + b) i (a * m + (a + i)) (omega arith) (omega arith)

  right_at : (i : ℕ) → i < b - a → get_or right_part i 0 ≡ get_or column (a + suc i + 1) 0
  right_at i h = part_at column (a + 2) (b + 2) i (a + suc i + 1) (omega arith) (omega arith)

  allow-length : length allow-part ≡ b - a
  allow-length = part_length allows (a + 1) (b + 1) (omega (arith, k.allows_size)) ∙ omega arith

  pub split_lists : SplitLists (sum_at m xs a (b + 1)) allow-part sum-part left-part right_part
  split_lists = record {
    as_sums = part_length xs (a * sums_width m + (a + 1)) (a * sums_width m + (b + 1)) (omega (arith, sum_in)) ∙ omega (arith, allow-length);
    as_lefts = part_length table (a * m + a) (a * m + b) (omega (arith, k.table_size, cell_in)) ∙ omega (arith, allow-length);
    as_rights = part_length column (a + 2) (b + 2) (omega (arith, k.column-size)) ∙ omega (arith, allow-length);
    small = λ i l.
        let h : i < b - a = omega (arith, allow-length) in
        rw (allow-at i h, sum-at i h, left_at i h, right_at i h) (k.small (suc i) (omega arith));
  }

  -- the split at a, and the largest split by the parts
  pub by_parts : {first v : ℕ} → first ≡ split_of (sum_at m xs a (b + 1)) (get_or allows a 0) (sum_at m xs a a) 0 (get_or column (a + 1) 0)
      → v ≡ max first (largest_at (sum_at m xs a (b + 1)) allow-part sum-part left-part right_part)
      → v ≡ cell_by m a b xs allows column table
  unfolding cell_by entry
  by_parts {first} e g =
      let f : ℕ → ℕ = split_from m a b xs allows column table in
      let w : b + 1 - a ≡ suc (b - a) = omega arith in
      let z : a + 0 ≡ a = omega arith in
      let start : f 0 ≡ first = rw (z, e) in
      let h : ℕ → ℕ = split_at (sum_at m xs a (b + 1)) allow-part sum-part left-part right_part in
      let others : largest h (b - a) ≡ largest (λ i. f (suc i)) (b - a) = largest_cong _ _ (b - a) (λ i h.
      rw (allow-at i h, sum-at i h, left_at i h, right_at i h)) in
      g ∙ rw (w, allow-length, largest-first f (b - a), start, others)
