-- The parts by their positions, as sets: one part more, and one position more.
use Prim.Native.Nat.{ℕ, zero, suc, ◌+◌, ◌≤◌, ◌<◌}
use native.Mathlib.Omega.{arith}
use mathlib.Core.Path.{◌≡◌, refl, ap, sym, ◌∙◌}
use mathlib.Core.Logic.{⊎_elim}
use mathlib.Core.Bool.{Bool, true, false, cond, ◌&&◌, ◌||◌}
use mathlib.Core.List.{List}
use lib.Dec.{ltb, eqb, T_not, eqb→eq, eqb_refl}
use lib.ListN.{length, get_or, set, replicate, length-set, take}
use lib.Seq.{get_or-set_same, get_or-set_other, get_or-take}
use borrow.Author.Tests.{lt-ltb, le-ltb, eq-eqb, ne_eqb}
use Rattle.model.proofs.Tests.{le_or_lt, test, true_T, false_T}
use Rattle.flat_order.specs.declared.sets.PartSet.{PartSet}
use Rattle.flat_order.specs.Sets.{has_part, single, joined, no_parts}
use Rattle.flat_order.specs.Flat.{row_at, AtPlaces, PartsAt}
use Rattle.flat_order.proofs.Members.{has-single, has-joined}
use Rattle.flat_order.proofs.Lasts.{first-none}

-- the row of part c, where the row of part b is the set s
pub row-set : (rows : List PartSet) (b c : ℕ) (s : PartSet) → b < length rows → row_at (set rows b s) c ≡ cond (eqb b c) s (row_at rows c)
row-set rows b c s l =
    ⊎_elim
    (λ u. rw (true_T (eqb b c) u, ← eqb→eq b c u) (get_or-set_same rows b s no_parts l))
    (λ u. rw (false_T (eqb b c) u) (get_or-set_other rows b c s no_parts (λ e. T_not (eqb b c) u (rw e (eqb_refl b)))))
    (test (eqb b c))

-- a row of an array without parts
pub row-none : (n v : ℕ) → row_at (replicate n no_parts) v ≡ no_parts
row-none zero v = refl
row-none (suc n) zero = refl
row-none (suc n) (suc v) = row-none n v

-- ---- each part at its place

pub places_none : (place : ℕ → ℕ) (m : ℕ) → AtPlaces place 0 (replicate m no_parts)
places_none place m = record {
  each = λ w x l. rw (row-none m w) (first-none x ∙ rw (le-ltb x 0 (omega arith)));
}

module _ (place : ℕ → ℕ) (i : ℕ) (rows : List PartSet) (at : ℕ) (e : at ≡ place i) (l : at < length rows) (p : AtPlaces place i rows) where
  abbrev f : ℕ → ℕ → Bool
  f w x = eqb (place x) w

  same : (a : Bool) → (true && a || false) ≡ (true && a)
  same true = refl
  same false = refl

  -- where part i is added, and where it is not
  with : (w x : ℕ) → at ≡ w → (ltb x i && f w x || eqb i x) ≡ (ltb x (i + 1) && f w x)
  with w x z =
      ⊎_elim
      (λ h. ⊎_elim
      (λ (k : x ≤ i). let q : i ≡ x = omega arith in
      let j : x < i + 1 = omega arith in
      let y : f w x ≡ true = eq-eqb (place x) w (ap place (sym q) ∙ sym e ∙ z) in
      rw (y, eq-eqb i x q, le-ltb x i h, lt-ltb x (i + 1) j))
      (λ (k : i < x). rw (ne_eqb i x (λ q. omega arith), le-ltb x i h, le-ltb x (i + 1) (omega arith)))
      (le_or_lt x i))
      (λ h. rw (ne_eqb i x (λ q. omega arith), lt-ltb x i h, lt-ltb x (i + 1) (omega arith)) (same (f w x)))
      (le_or_lt i x)

  but : (w x : ℕ) → (at ≡ w → ⊥) → (ltb x i && f w x) ≡ (ltb x (i + 1) && f w x)
  but w x z =
      ⊎_elim
      (λ h. ⊎_elim
      (λ (k : x ≤ i). let q : i ≡ x = omega arith in
      let j : x < i + 1 = omega arith in
      let y : f w x ≡ false = ne_eqb (place x) w (λ t. z (e ∙ ap place q ∙ t)) in
      rw (y, le-ltb x i h, lt-ltb x (i + 1) j))
      (λ (k : i < x). rw (le-ltb x i h, le-ltb x (i + 1) (omega arith)))
      (le_or_lt x i))
      (λ h. rw (lt-ltb x i h, lt-ltb x (i + 1) (omega arith)))
      (le_or_lt i x)

  pub places_more : AtPlaces place (i + 1) (set rows at (joined (row_at rows at) (single i)))
  places_more =
      let row = joined (row_at rows at) (single i) in
      record {
        each = λ w x h. let k : w < length rows = omega (arith, length-set rows at row) in
            ap (λ s. has_part s x) (row-set rows at w row l) ∙ ⊎_elim
            (λ u. let z = eqb→eq at w u in rw (true_T (eqb at w) u)
            (has-joined (row_at rows at) (single i) x ∙ rw (has-single i x, z, p.each w x k) (with w x z)))
            (λ u. rw (false_T (eqb at w) u) (p.each w x k ∙ but w x (λ z. T_not (eqb at w) u (rw z (eqb_refl w)))))
            (test (eqb at w));
      }

-- the parts by the first n positions
pub parts_taken : (positions : List ℕ) (n : ℕ) (rows : List PartSet) → PartsAt (take n positions) n rows → PartsAt positions n rows
parts_taken positions n rows p = record {
  each = λ w x h. p.each w x h ∙ ⊎_elim
      (λ (l : n ≤ x). rw (le-ltb x n l))
      (λ (l : x < n). rw (get_or-take n positions x 0 l))
      (le_or_lt n x);
}

-- ---- the parts whose positions are before one

pub before-none : (positions : List ℕ) (n x : ℕ) → has_part no_parts x ≡ (ltb x n && ltb (get_or positions x 0) 0)
before-none positions n x = first-none x
    ∙ rw (le-ltb x 0 (omega arith), le-ltb (get_or positions x 0) 0 (omega arith)) (none (ltb x n))
  where
    none : (a : Bool) → false ≡ (a && false)
    none true = refl
    none false = refl

pub before_more : (positions : List ℕ) (rows : List PartSet) (n p : ℕ) (s : PartSet) → p + 1 < length rows → PartsAt positions n rows
    → ((x : ℕ) → has_part s x ≡ (ltb x n && ltb (get_or positions x 0) p))
    → (x : ℕ) → has_part (joined s (row_at rows (p + 1))) x ≡ (ltb x n && ltb (get_or positions x 0) (p + 1))
before_more positions rows n p s l at h x =
    has-joined s (row_at rows (p + 1)) x ∙ rw (h x, at.each (p + 1) x l) (one_more (ltb x n) (get_or positions x 0))
  where
    one_more : (a : Bool) (q : ℕ) → (a && ltb q p || a && eqb (q + 1) (p + 1)) ≡ (a && ltb q (p + 1))
    one_more false q = refl
    one_more true q =
        ⊎_elim
        (λ h. ⊎_elim
        (λ (k : q ≤ p). rw (le-ltb q p h, eq-eqb (q + 1) (p + 1) (omega arith), lt-ltb q (p + 1) (omega arith)))
        (λ (k : p < q). rw (le-ltb q p h, ne_eqb (q + 1) (p + 1) (λ z. omega arith), le-ltb q (p + 1) (omega arith)))
        (le_or_lt q p))
        (λ h. rw (lt-ltb q p h, lt-ltb q (p + 1) (omega arith)))
        (le_or_lt p q)
