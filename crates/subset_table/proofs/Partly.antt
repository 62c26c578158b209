-- The counts summed tip by tip.
use Prim.Native.Nat.{ℕ, suc, ◌+◌, ◌*◌, ◌-◌, ◌^◌, ◌≤◌, ◌<◌}
use native.Mathlib.Omega.{arith}
use native.Mathlib.Nat.{le_trans}
use mathlib.Core.Path.{◌≡◌, refl, ap, sym, ◌∙◌}
use mathlib.Core.Logic.{◌↔◌, ◌⊎◌, inl, inr, ⊎_elim}
use mathlib.Core.Bool.{Bool, not, cond, ◌||◌}
use mathlib.Core.List.{List}
use lib.Dec.{T, T_not, leb, eqb, leb→le, le→leb, eqb→eq}
use lib.ListN.{length, get_or}
use lib.Pow.{pow-add}
use Rattle.model.specs.Limits.{most_placements}
use Rattle.model.specs.Count.{count, every, list_of, All}
use Rattle.model.specs.Plan.{has, Domain}
use Rattle.model.specs.CommonTip.{covers}
use Rattle.model.proofs.Tests.{le_or_lt, test, true_T, false_T, eqb_T, same_test, and_left, and_right, and_in, imply_in, imply_out, every_iff}
use Rattle.model.proofs.Lists.{all_map, all_get_d, count_cong, count_le}
use Rattle.model.proofs.Mix.{Part, part_by, count_parts}
use Rattle.model.proofs.Sets.{has-below, set_same, covers_iff}
use Rattle.model.proofs.ListOf.{length-list_of, list_of-at, list_of_cong}
use Rattle.subset_rules.specs.Subsets.{lying}
use Rattle.subset_rules.specs.Exact.{most_named}
use Rattle.subset_rules.proofs.Drop.{drop_own, drop_other, drop_lt}
use Rattle.subset_table.specs.Counting.{partly, part_counts, set_counts, added_at, Addable}

-- ---- what is partly within

-- s lies within u, and has each tip of u from b on
abbrev Partly : ℕ → ℕ → ℕ → Type 0
Partly b u s = ((t : ℕ) → T (has s t) → T (has u t)) × ((t : ℕ) → b ≤ t → T (has u t) → T (has s t))

partly_iff : (m b u s : ℕ) → u < 2 ^ m → s < 2 ^ m → T (partly m b u s) ↔ Partly b u s
unfolding partly
partly_iff m b u s x y =
    let f : ℕ → Bool = λ t. not (leb b t) || (not (has u t) || has s t) in (
      λ p. (
        (covers_iff m u s y).0 (and_left (covers m u s) (every f m) p),
        λ t l h.
            let y = (every_iff f m).0 (and_right (covers m u s) (every f m) p) t (has-below m u t x h) in
            imply_out (has u t) (has s t) (imply_out (leb b t) (not (has u t) || has s t) y (le→leb b t l)) h,
      ),
      λ (p, q). and_in (covers m u s) (every f m) ((covers_iff m u s y).1 p)
          ((every_iff f m).1 (λ t _. imply_in (leb b t) (not (has u t) || has s t) (λ l. imply_in (has u t) (has s t) (q t (leb→le b t l))))),
    )

module _ {m s : ℕ} (d : Domain m s) (u : ℕ) (x : u < 2 ^ m) where
  abbrev in_part : (b v : ℕ) → v < 2 ^ m → Partly b v s → T (partly m b v s)
  in_part b v l = (partly_iff m b v s l d.below).1

  abbrev out-part : (b v : ℕ) → v < 2 ^ m → T (partly m b v s) → Partly b v s
  out-part b v l = (partly_iff m b v s l d.below).0

  -- from tip 0 on: the set itself
  part-first : partly m 0 u s ≡ eqb s u
  part-first =
      same_test (partly m 0 u s) (eqb s u)
      (λ p. let (a, b) = out-part 0 u x p in eqb_T s u (set_same s u (λ t. same_test (has s t) (has u t) (a t) (b t (omega arith)))))
      (λ e. in_part 0 u x (rw (eqb→eq s u e) (λ t h. h, λ t l h. h)))

  -- from tip m on: each set within
  part-last : partly m m u s ≡ covers m u s
  part-last =
      same_test (partly m m u s) (covers m u s)
      (λ p. (covers_iff m u s d.below).1 (out-part m u x p).0)
      (λ c. in_part m u x ((covers_iff m u s d.below).0 c, λ t l h. absurd (omega (arith, has-below m u t x h))))

  -- a set that does not have tip b: no more
  part_same : (b : ℕ) → T (not (has u b)) → partly m (b + 1) u s ≡ partly m b u s
  part_same b n =
      same_test (partly m (b + 1) u s) (partly m b u s)
      (λ p.
      let (a, c) = out-part (b + 1) u x p in
      in_part b u x (a, λ t l h. c t (past t l h) h))
      (λ p. let (a, c) = out-part b u x p in in_part (b + 1) u x (a, λ t l. c t (omega arith)))
    where
      past : (t : ℕ) → b ≤ t → T (has u t) → b + 1 ≤ t
      past t l h = ⊎_elim (λ q. q) (λ q. absurd (T_not (has u b) n (same t (omega arith) h))) (le_or_lt (b + 1) t)
        where
          same : (t : ℕ) → t ≡ b → T (has u t) → T (has u b)
          same t e h = rw e at h

  -- a set that has it: those with the tip, and those without
  part-more : (b : ℕ) → T (has u b) → Part (partly m (b + 1) u s) (partly m b u s) (partly m b (u - 2 ^ b) s)
  part-more b h = part_by (partly m (b + 1) u s) (partly m b u s) (partly m b w s) split with-tip without-tip apart
    where
      w : ℕ
      w = u - 2 ^ b

      y : w < 2 ^ m
      y = omega (arith, drop_lt u b h)

      other : (t : ℕ) → (t ≡ b → ⊥) → has w t ≡ has u t
      other t n = drop_other u b t h n

      -- a tip of the set left is a tip of u, and not b
      left : (t : ℕ) → T (has w t) → (t ≡ b → ⊥)
      left t g e = rw (e, drop_own u b h) at g

      kept : (t : ℕ) → T (has w t) → T (has u t)
      kept t g = rw (other t (left t g)) at g

      split : T (partly m (b + 1) u s) → T (partly m b u s) ⊎ T (partly m b w s)
      split p =
          let (a, c) = out-part (b + 1) u x p in
          ⊎_elim
          (λ g. inl (in_part b u x (a, λ t l k. ⊎_elim (λ q. c t q k) (λ q. at t (omega arith) g) (le_or_lt (b + 1) t))))
          (λ n. inr (in_part b w y (
            λ t k. rw (other t (λ e. T_not (has s b) n (rw e at k))) (a t k),
            λ t l k. c t (beyond t l (left t k)) (kept t k),
          )))
          (test (has s b))
        where
          at : (t : ℕ) → t ≡ b → T (has s b) → T (has s t)
          at t e g = rw e g

          beyond : (t : ℕ) → b ≤ t → (t ≡ b → ⊥) → b + 1 ≤ t
          beyond t l n = omega arith

      with-tip : T (partly m b u s) → T (partly m (b + 1) u s)
      with-tip p = let (a, c) = out-part b u x p in in_part (b + 1) u x (a, λ t l. c t (omega arith))

      without-tip : T (partly m b w s) → T (partly m (b + 1) u s)
      without-tip p =
          let (a, c) = out-part b w y p in
          in_part (b + 1) u x (λ t k. kept t (a t k), λ t l k. c t (omega arith) (rw (other t (λ e. omega arith)) k))

      apart : T (partly m b u s) → T (partly m b w s) → ⊥
      apart p q = left b ((out-part b w y q).0 b ((out-part b u x p).1 b (omega arith) h)) refl

-- ---- the counts of all sets

module _ {m : ℕ} {lines : List ℕ} (ds : All (Domain m) lines) where
  abbrev at : ℕ → ℕ → ℕ
  at b u = count (partly m b u) lines

  -- one tip more
  pub part-counts-more : (b : ℕ) → list_of (added_at b (part_counts m b lines)) (2 ^ m) ≡ part_counts m (b + 1) lines
  unfolding part_counts added_at
  part-counts-more b = list_of_cong _ _ (2 ^ m) (λ u l. ⊎_elim (owned u l) (lacked u l) (test (has u b)))
    where
      xs : List ℕ
      xs = list_of (at b) (2 ^ m)

      owned : (u : ℕ) → u < 2 ^ m → T (has u b) → cond (has u b) (get_or xs u 0 + get_or xs (u - 2 ^ b) 0) (get_or xs u 0) ≡ at (b + 1) u
      owned u l h =
          rw (true_T (has u b) h) (omega (
            arith,
            list_of-at (at b) (2 ^ m) u l,
            list_of-at (at b) (2 ^ m) (u - 2 ^ b) (omega (arith, drop_lt u b h)),
            count_parts (all_map (λ s d. part-more d u l b h) ds),
          ))

      lacked : (u : ℕ) → u < 2 ^ m → T (not (has u b)) → cond (has u b) (get_or xs u 0 + get_or xs (u - 2 ^ b) 0) (get_or xs u 0) ≡ at (b + 1) u
      lacked u l n = rw (false_T (has u b) n) (list_of-at (at b) (2 ^ m) u l ∙ sym (count_cong (all_map (λ s d. part_same d u l b n) ds)))

  pub part-counts-first : set_counts (2 ^ m) lines ≡ part_counts m 0 lines
  unfolding part_counts set_counts
  part-counts-first = list_of_cong _ _ (2 ^ m) (λ u l. sym (count_cong (all_map (λ s d. part-first d u l) ds)))

  pub part-counts-last : part_counts m m lines ≡ list_of (lying m lines) (2 ^ m)
  unfolding part_counts lying
  part-counts-last = list_of_cong _ _ (2 ^ m) (λ u l. count_cong (all_map (λ s d. part-last d u l) ds))

module _ (m b : ℕ) (lines : List ℕ) where
  pub length-part-counts : length (part_counts m b lines) ≡ 2 ^ m
  unfolding part_counts
  length-part-counts = length-list_of _ (2 ^ m)

  -- no count is above the number of lines
  part-counts_few : length lines ≤ most_placements → All (λ n. n ≤ most_placements) (part_counts m b lines)
  unfolding part_counts
  part-counts_few few =
      all_get_d 0 _ (λ u l.
      let e : length (list_of (λ v. count (partly m b v) lines) (2 ^ m)) ≡ 2 ^ m = length-list_of _ (2 ^ m) in
      rw (list_of-at (λ v. count (partly m b v) lines) (2 ^ m) u (omega arith)) (le_trans (count_le _ lines) few))

  -- and the places are whole blocks of each tip
  pub part-counts_addable : m ≤ most_named → b < m → length lines ≤ most_placements → Addable b (part_counts m b lines)
  part-counts_addable narrow l few =
      let split : m ≡ suc (m - suc b) + b = omega arith in
      record {
        tip = omega arith;
        blocks = 2 ^ (m - suc b);
        whole = length-part-counts ∙ ap (λ k. 2 ^ k) split ∙ pow-add 2 (suc (m - suc b)) b ∙ ap (λ x. x * 2 ^ b) (omega arith);
        few = part-counts_few few;
      }
