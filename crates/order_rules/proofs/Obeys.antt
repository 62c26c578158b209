-- An order obeys exactly when it completes the empty order, part by part; each part has a place in it.
use Prim.Native.Nat.{ℕ, zero, suc, ◌+◌, ◌≤◌, ◌<◌}
use native.Mathlib.Omega.{arith}
use mathlib.Core.Path.{◌≡◌, sym, ◌∙◌}
use mathlib.Core.Logic.{◌≢◌}
use mathlib.Core.Bool.{Bool, true, not, cond, ◌&&◌, and-true}
use mathlib.Core.List.{List, [], ◌∷◌}
use lib.Dec.{T, eqb, eqb→eq}
use lib.ListN.{length, get_or}
use Rattle.model.proofs.Tests.{cond_case, and_in}
use Rattle.order_rules.specs.Number.{number, without}
use Rattle.order_rules.specs.Order.{Task, Obeys, Ready, Completes, done, next}
use Rattle.order_rules.proofs.Number.{number_cong, number-all, number_pos, number-without, without-left, without_differs, without_in}

-- the position of y in the order; the length where it is absent
abbrev pub place : List ℕ → ℕ → ℕ
place [] y = 0
place (x ∷ order) y = cond (eqb x y) 0 (suc (place order y))

-- one part fewer is left
pub number-one_less : (left : ℕ → Bool) (x m : ℕ) → x < m → T (left x) → number left m ≡ suc (number (without x left) m)
number-one_less left x m l t =
    omega (
      arith,
      number-without left (λ _. true) x m l t,
      number_cong (λ i. left i && true) left m (λ i _. and-true (left i)),
      number_cong (λ i. without x left i && true) (without x left) m (λ i _. and-true (without x left i)),
    )

module _ (t : Task) where
  -- a part left has its place in an order that completes
  pub place_at : {p : ℕ} {left : ℕ → Bool} {order : List ℕ} → Completes t p left order → (y : ℕ) → y < t.size → T (left y)
      → (place order y < length order) × (get_or order (place order y) 0 ≡ y)
  place_at {left = left} (done e) y l u = absurd (omega (arith, number_pos left t.size y l u))
  place_at {left = left} (next {x = x} {order = order} r c) y l u =
      cond_case (λ q. (q < length (x ∷ order)) × (get_or (x ∷ order) q 0 ≡ y)) (eqb x y)
      (λ e. (omega arith, eqb→eq x y e))
      (λ n. let h = place_at c y l (and_in (left y) (not (eqb x y)) u n) in (omega arith, h.1))

  -- the order obeys, of the parts left and from position p on
  record From (p : ℕ) (left : ℕ → Bool) (order : List ℕ) : Type 0 where
    count : number left t.size ≡ length order
    parts : (q : ℕ) → q < length order → get_or order q 0 < t.size
    is_left : (q : ℕ) → q < length order → T (left (get_or order q 0))
    different : (q r : ℕ) → q < r → r < length order → get_or order q 0 ≢ get_or order r 0
    opens : (q : ℕ) → q < length order → t.first (get_or order q 0) ≤ p + q
    closes : (q : ℕ) → q < length order → p + q ≤ t.last (get_or order q 0)
    ordered : (q r : ℕ) → q < r → r < length order → T (t.before (get_or order r 0) (get_or order q 0)) → ⊥

  -- the first part taken off, and put back
  module _ {p x : ℕ} {left : ℕ → Bool} {order : List ℕ} where
    tail : From p left (x ∷ order) → From (suc p) (without x left) order
    tail f =
        let z : 0 < length (x ∷ order) = omega arith in
        record {
          count = omega (arith, f.count, number-one_less left x t.size (f.parts 0 z) (f.is_left 0 z));
          parts = λ q l. f.parts (suc q) (omega arith);
          is_left = λ q l.
              without_in left x (get_or order q 0) (f.is_left (suc q) (omega arith)) (f.different 0 (suc q) (omega arith) (omega arith));
          different = λ q r k l. f.different (suc q) (suc r) (omega arith) (omega arith);
          opens = λ q l. omega (arith, f.opens (suc q) (omega arith));
          closes = λ q l. omega (arith, f.closes (suc q) (omega arith));
          ordered = λ q r k l. f.ordered (suc q) (suc r) (omega arith) (omega arith);
        }

    ready : From p left (x ∷ order) → Completes t (suc p) (without x left) order → Ready t p left x
    ready f c =
        let z : 0 < length (x ∷ order) = omega arith in
        record {
          part = f.parts 0 z;
          is_left = f.is_left 0 z;
          opens = omega (arith, f.opens 0 z);
          closes = omega (arith, f.closes 0 z);
          free = λ y l u b.
              let h = place_at c y l u in
              f.ordered 0 (suc (place order y)) (omega arith) (omega arith) (rw h.1 b);
        }

    cons : Ready t p left x → From (suc p) (without x left) order → From p left (x ∷ order)
    cons r f = record {
      count = omega (arith, f.count, number-one_less left x t.size r.part r.is_left);
      parts = parts;
      is_left = is_left;
      different = different;
      opens = opens;
      closes = closes;
      ordered = ordered;
    }
      where
        parts : (q : ℕ) → q < length (x ∷ order) → get_or (x ∷ order) q 0 < t.size
        parts zero l = r.part
        parts (suc q) l = f.parts q (omega arith)

        is_left : (q : ℕ) → q < length (x ∷ order) → T (left (get_or (x ∷ order) q 0))
        is_left zero l = r.is_left
        is_left (suc q) l = without-left left x (get_or order q 0) (f.is_left q (omega arith))

        different : (q k : ℕ) → q < k → k < length (x ∷ order) → get_or (x ∷ order) q 0 ≢ get_or (x ∷ order) k 0
        different q zero k l = absurd (omega arith)
        different zero (suc k) h l = without_differs left x (get_or order k 0) (f.is_left k (omega arith))
        different (suc q) (suc k) h l = f.different q k (omega arith) (omega arith)

        opens : (q : ℕ) → q < length (x ∷ order) → t.first (get_or (x ∷ order) q 0) ≤ p + q
        opens zero l = omega (arith, r.opens)
        opens (suc q) l = omega (arith, f.opens q (omega arith))

        closes : (q : ℕ) → q < length (x ∷ order) → p + q ≤ t.last (get_or (x ∷ order) q 0)
        closes zero l = omega (arith, r.closes)
        closes (suc q) l = omega (arith, f.closes q (omega arith))

        ordered : (q k : ℕ) → q < k → k < length (x ∷ order) → T (t.before (get_or (x ∷ order) k 0) (get_or (x ∷ order) q 0)) → ⊥
        ordered q zero h l = absurd (omega arith)
        ordered zero (suc k) h l = r.free (get_or order k 0) (f.parts k (omega arith)) (f.is_left k (omega arith))
        ordered (suc q) (suc k) h l = f.ordered q k (omega arith) (omega arith)

  from_completes : (p : ℕ) (left : ℕ → Bool) (order : List ℕ) → From p left order → Completes t p left order
  from_completes p left [] f = done f.count
  from_completes p left (x ∷ order) f =
      let c = from_completes (suc p) (without x left) order (tail f) in
      next (ready f c) c

  completes_from : {p : ℕ} {left : ℕ → Bool} {order : List ℕ} → Completes t p left order → From p left order
  completes_from (done e) = record {
    count = e;
    parts = λ q l. absurd (omega arith);
    is_left = λ q l. absurd (omega arith);
    different = λ q r k l. absurd (omega arith);
    opens = λ q l. absurd (omega arith);
    closes = λ q l. absurd (omega arith);
    ordered = λ q r k l. absurd (omega arith);
  }
  completes_from (next r c) = cons r (completes_from c)

  pub completes : {order : List ℕ} → Obeys t order → Completes t 0 (λ _. true) order
  completes {order} o = from_completes 0 (λ _. true) order (record {
    count = number-all t.size ∙ sym o.count;
    parts = λ q l. o.parts q (omega (arith, o.count));
    is_left = λ q l. tt;
    different = λ q r k l. o.different q r k (omega (arith, o.count));
    opens = λ q l. omega (arith, o.opens q (omega (arith, o.count)));
    closes = λ q l. omega (arith, o.closes q (omega (arith, o.count)));
    ordered = λ q r k l. o.ordered q r k (omega (arith, o.count));
  })

  pub obeys : {order : List ℕ} → Completes t 0 (λ _. true) order → Obeys t order
  obeys {order} c =
      let f = completes_from c in
      let e : length order ≡ t.size = sym f.count ∙ number-all t.size in
      record {
        count = e;
        parts = λ p l. f.parts p (omega arith);
        different = λ p q k l. f.different p q k (omega arith);
        opens = λ p l. omega (arith, f.opens p (omega arith));
        closes = λ p l. omega (arith, f.closes p (omega arith));
        ordered = λ p q k l. f.ordered p q k (omega arith);
      }
