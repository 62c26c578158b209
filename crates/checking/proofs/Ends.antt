-- The intervals with one first tip and one tip to split at: the one that ends there, and the others from parts of the sums and of the table.
use Rattle.std.proofs.Common.{◌≡◌, ℕ, suc, ◌+◌, ◌-◌, ◌*◌, ◌%◌, ◌^◌, ◌<◌, ◌≤◌, Bool, true, false}
use Rattle.std.proofs.Common.{leb, List, length, get_or, sym, refl, ap, ◌∙◌, add-zero, mul-le-mul_right, arith, le-leb}
use borrow.Author.Tests.{lt-leb}
use Rattle.model.specs.Count.{every}
use Rattle.model.specs.Plan.{choose2}
use Rattle.model.proofs.Loops.{part, part_length, part_at}
use Rattle.model.proofs.Cong.{every_cong}
use Rattle.spans.specs.Spans.{sum_at, inside_by}
use Rattle.goal_rules.specs.Check.{entry}
use Rattle.intervals.proofs.Read.{split_tips}
use Rattle.checking.specs.Checking.{end_by, ends_by, ends_at, EndLists, Held}
use Rattle.intervals.proofs.Entry.{entry_some}
use Rattle.checking.proofs.Bounds.{every_stop, every_first}

-- a difference that may be below zero, added
shifted : (n s o h : ℕ) → (s + o) % 2 ^ 32 ≡ h → s < 2 ^ 32 → o ≤ n + h → n + h ≤ 4096 → (n + s) % 2 ^ 32 ≡ n + h - o
shifted n s o h e l g k = omega arith

module _ {m : ℕ} {xs tab : List ℕ} (r : Held m xs tab) (a c : ℕ) (from : a ≤ c) (inside-rack : c < m) where
  abbrev fits : ℕ → Bool
  fits j = end_by m xs tab a c (c + j)

  -- the interval that ends at c, by its own pairs x, the entry y left of c and its entry e
  module _ {x y e : ℕ} (own : x ≡ choose2 (inside_by m xs a (c + 1 - a) c)) (left : y ≡ entry m tab a (c - a))
      (most : e ≡ entry m tab a (c + 1 - a)) where
    first_end : fits 0 ≡ leb (x + y) e
    unfolding entry
    first_end =
        let z : c + 0 ≡ c = omega arith in
        let n : c - c ≡ 0 = omega arith in
        rw (z, split_tips m xs tab a c c from (omega arith), n, add-zero, own, left, most)

    pub first_fits : x + y ≤ e → fits 0 ≡ true
    first_fits h = first_end ∙ le-leb (x + y) e h

    pub first_fails : e < x + y → ends_by m xs tab a c ≡ false
    unfolding ends_by
    first_fails h = every_stop fits (m - c) 0 (omega arith) (first_end ∙ lt-leb (x + y) e h)

  -- and the others
  pub other_ends : fits 0 ≡ true → ends_by m xs tab a c ≡ every (λ j. fits (suc j)) (m - (c + 1))
  unfolding ends_by
  other_ends h =
      let e : m - c ≡ suc (m - (c + 1)) = omega arith in
      rw (e, every_first fits (m - (c + 1)), h)

  module _ (more : c + 1 < m) where
    -- the rows of tip a and of the tip after c are in the sums and in the table
    pub record Rows : Type 0 where
      pub first-sums : (a + 1) * (m + 1) ≤ length xs
      pub next_sums : (c + 1 + 1) * (m + 1) ≤ length xs
      pub first-row : (a + 1) * m ≤ length tab
      pub next_row : (c + 1 + 1) * m ≤ length tab

    pub rows : Rows
    rows =
        let size = (r.sums.summed a (c + 1 - a) c (omega arith) from (omega arith)).size in
        let f : suc a ≤ m + 1 = omega arith in
        let n : suc (c + 1) ≤ m + 1 = omega arith in
        let g : suc a ≤ m = omega arith in
        let k : suc (c + 1) ≤ m = omega arith in
        record {
          first-sums = omega (arith, size, mul-le-mul_right (m + 1) f);
          next_sums = omega (arith, size, mul-le-mul_right (m + 1) n);
          first-row = omega (arith, r.size, mul-le-mul_right m g);
          next_row = omega (arith, r.size, mul-le-mul_right m k);
        }

    -- the sums of one tip, and what is read there
    abbrev pub row : ℕ → List ℕ
    row i = part (i * (m + 1)) ((i + 1) * (m + 1)) xs

    row_length : (i : ℕ) → (i + 1) * (m + 1) ≤ length xs → length (row i) ≡ m + 1
    row_length i h = part_length xs (i * (m + 1)) ((i + 1) * (m + 1)) h ∙ omega arith

    pub row_at : (i y : ℕ) → y < m + 1 → get_or (row i) y 0 ≡ sum_at m xs i y
    row_at i y h = part_at xs (i * (m + 1)) ((i + 1) * (m + 1)) y _ (omega arith) refl

    end_at : (i j : ℕ) → (i + 1) * (m + 1) ≤ length xs → c + 1 + 1 + j < m + 1
        → get_or (part (c + 1 + 1) (length (row i)) (row i)) j 0 ≡ sum_at m xs i (c + 1 + 1 + j)
    end_at i j h k =
        part_at (row i) (c + 1 + 1) (length (row i)) j (c + 1 + 1 + j) (omega (arith, row_length i h)) refl ∙ row_at i (c + 1 + 1 + j) k

    abbrev nexts : List ℕ
    nexts = part (c + 1 + 1) (length (row (c + 1))) (row (c + 1))

    abbrev firsts : List ℕ
    firsts = part (c + 1 + 1) (length (row a)) (row a)

    abbrev rights : List ℕ
    rights = part ((c + 1) * m + (c + 1)) ((c + 1 + 1) * m) tab

    abbrev mosts : List ℕ
    mosts = part (a * m + (c + 1)) ((a + 1) * m) tab

    mosts-length : length mosts ≡ m - (c + 1)
    mosts-length = part_length tab (a * m + (c + 1)) ((a + 1) * m) (omega (arith, rows)) ∙ omega arith

    ends-length : (i : ℕ) → (i + 1) * (m + 1) ≤ length xs → length (part (c + 1 + 1) (length (row i)) (row i)) ≡ length mosts
    ends-length i h = part_length (row i) (c + 1 + 1) (length (row i)) (omega arith) ∙ omega (arith, row_length i h, mosts-length)

    module _ {shift : ℕ} (small : shift < 2 ^ 32) (shifts : (shift + sum_at m xs (c + 1) c) % 2 ^ 32 ≡ sum_at m xs a c) where
      -- the numbers of the interval that ends at c + suc j
      record Numbers (j : ℕ) : Type 0 where
        pub covers : get_or firsts j 0 ≤ (get_or nexts j 0 + shift) % 2 ^ 32
        pub own : (get_or nexts j 0 + shift) % 2 ^ 32 - get_or firsts j 0 ≡ inside_by m xs a (c + suc j + 1 - a) c
        pub right : get_or rights j 0 ≡ entry m tab (c + 1) (c + suc j - c)
        pub most : get_or mosts j 0 ≡ entry m tab a (c + suc j + 1 - a)

      numbers : (j : ℕ) → j < m - (c + 1) → Numbers j
      unfolding inside_by
      numbers j h =
          let w = c + suc j + 1 - a in
          let s = r.sums.summed a w c (omega arith) from (omega arith) in
          let n : get_or nexts j 0 ≡ sum_at m xs (c + 1) (a + w)
          = end_at (c + 1) j rows.next_sums (omega arith) ∙ ap (sum_at m xs (c + 1)) (omega arith) in
          let f : get_or firsts j 0 ≡ sum_at m xs a (a + w) = end_at a j rows.first-sums (omega arith) ∙ ap (sum_at m xs a) (omega arith) in
          let e = shifted (get_or nexts j 0) shift (sum_at m xs (c + 1) c) (sum_at m xs a c) shifts small
          (omega (arith, n, s.covers)) (omega (arith, n, s.small)) in
          record {
            covers = omega (arith, e, n, f, s.covers);
            own = omega (arith, e, n, f);
            right = part_at tab _ ((c + 1 + 1) * m) j _ (omega arith) (omega arith) ∙ sym (entry_some m tab (c + 1) (c + suc j - c) (omega arith));
            most = part_at tab _ ((a + 1) * m) j _ (omega arith) (omega arith) ∙ sym (entry_some m tab a w (omega arith));
          }

      module _ {left : ℕ} (is_left : left ≡ entry m tab a (c - a)) (narrow : left < 2 ^ 32) where
        pub end_lists : EndLists left shift nexts firsts rights mosts
        end_lists = record {
          as_nexts = ends-length (c + 1) rows.next_sums;
          as_firsts = ends-length a rows.first-sums;
          as_rights = part_length tab _ ((c + 1 + 1) * m) (omega (arith, rows)) ∙ omega (arith, mosts-length);
          entry_left = narrow;
          covers = λ j h. (numbers j (omega (arith, mosts-length))).covers;
          few = λ j h.
              let k : j < m - (c + 1) = omega (arith, mosts-length) in
              omega (arith, (numbers j k).own, r.sums.few a (c + suc j + 1 - a) c (omega arith) from (omega arith));
        }

        -- THE LISTS say what the definition says of the other ends
        pub ends_same : ends_at left shift nexts firsts rights mosts ≡ every (λ j. fits (suc j)) (m - (c + 1))
        unfolding ends_at
        ends_same = rw mosts-length (every_cong _ _ (m - (c + 1)) (λ j h.
            let n = numbers j h in
            rw (n.own, n.right, n.most, is_left, split_tips m xs tab a c (c + suc j) from (omega arith))))
