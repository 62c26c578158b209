-- The positions of an order noted, one after the other.
use Prim.Native.Nat.{ℕ, ◌+◌, ◌≤◌, ◌<◌, min, max}
use native.Mathlib.Omega.{arith}
use mathlib.Core.Path.{◌≡◌, refl, ap, sym, ◌∙◌}
use mathlib.Core.Logic.{⊎_elim}
use mathlib.Core.List.{List}
use lib.Dec.{T}
use lib.ListN.{length, get_or, set, replicate, length-set}
use Rattle.std.proofs.lemmas.List.{get_or-replicate}
use lib.Seq.{get_or-set_same, get_or-set_other}
use Rattle.model.proofs.Tests.{le_or_lt}
use Rattle.order_rules.specs.Order.{Task, Obeys}
use Rattle.windows.specs.Bounds.{solvable, due_by, not_before, soonest, latest}
use Rattle.windows.specs.Found.{SeenFirst, SeenLast, Lowered, Raised}
use Rattle.windows.proofs.Narrowing.{soonest_in}
use Rattle.windows.proofs.Bounds.{Below, stands, due_self, since_self, soonest_le, latest_ge}

-- two numbers are equal, or they are not
is_or : {P : Type 0} (a b : ℕ) → (a ≡ b → P) → ((a ≡ b → ⊥) → P) → P
is_or a b f g =
    ⊎_elim
    (λ (h : a ≤ b). ⊎_elim (λ (k : b ≤ a). f (omega arith)) (λ (k : a < b). g (λ e. omega arith)) (le_or_lt b a))
    (λ (h : b < a). g (λ e. omega arith))
    (le_or_lt a b)

pub lowered_none : (order first : List ℕ) → Lowered order 0 first first
lowered_none order first = record {
  size = refl;
  lower = λ j. omega arith;
  had = λ q l. absurd (omega arith);
  seen = λ t b o s. s;
}

pub raised_none : (order last : List ℕ) → Raised order 0 last last
raised_none order last = record {
  size = refl;
  higher = λ j. omega arith;
  had = λ q l. absurd (omega arith);
  seen = λ t b o s. s;
}

module _ (order old now : List ℕ) (p : ℕ) (h : p < length order) where
  abbrev x : ℕ
  x = get_or order p 0

  module _ (l : x < length now) where
    module _ (n : Lowered order p old now) where
      abbrev less : List ℕ
      less = set now x (min (get_or now x 0) p)

      less_self : get_or less x 0 ≡ min (get_or now x 0) p
      less_self = get_or-set_same now x (min (get_or now x 0) p) 0 l

      less_at : (P : ℕ → Type 0) (j : ℕ) → (x ≡ j → P (min (get_or now x 0) p)) → P (get_or now j 0) → P (get_or less j 0)
      less_at P j f g = is_or x j
          (λ e. rw (← e, less_self) (f e))
          (λ d. rw (get_or-set_other now x j (min (get_or now x 0) p) 0 (λ e. d (sym e))) g)

      pub lowered_more : Lowered order (p + 1) old less
      lowered_more = record {
        size = length-set now x (min (get_or now x 0) p) ∙ n.size;
        lower = λ j. less_at (λ v. v ≤ get_or old j 0) j (λ e. rw (← e) (omega (arith, n.lower x))) (n.lower j);
        had = λ q k. ⊎_elim
            (λ (y : p ≤ q). let e : q ≡ p = omega arith in rw e (omega (arith, less_self)))
            (λ (y : q < p). less_at (λ v. v ≤ q) (get_or order q 0)
            (λ e. omega (arith, rw (← e) at (n.had q y))) (n.had q y))
            (le_or_lt p q);
        seen = λ t b o s j k. less_at (λ v. soonest t j ≤ v) j
            (λ e. let c = soonest_le t b j k p (record { order = order; obeys = o; below = omega (arith, o.count); at = e }) in
            omega (arith, c, n.seen t b o s j k, ap (λ v. get_or now v 0) e))
            (n.seen t b o s j k);
      }

    module _ (n : Raised order p old now) where
      abbrev more : List ℕ
      more = set now x (max (get_or now x 0) p)

      more_self : get_or more x 0 ≡ max (get_or now x 0) p
      more_self = get_or-set_same now x (max (get_or now x 0) p) 0 l

      more_at : (P : ℕ → Type 0) (j : ℕ) → (x ≡ j → P (max (get_or now x 0) p)) → P (get_or now j 0) → P (get_or more j 0)
      more_at P j f g = is_or x j
          (λ e. rw (← e, more_self) (f e))
          (λ d. rw (get_or-set_other now x j (max (get_or now x 0) p) 0 (λ e. d (sym e))) g)

      pub raised_more : Raised order (p + 1) old more
      raised_more = record {
        size = length-set now x (max (get_or now x 0) p) ∙ n.size;
        higher = λ j. more_at (λ v. get_or old j 0 ≤ v) j (λ e. rw (← e) (omega (arith, n.higher x))) (n.higher j);
        had = λ q k. ⊎_elim
            (λ (y : p ≤ q). let e : q ≡ p = omega arith in rw e (omega (arith, more_self)))
            (λ (y : q < p). more_at (λ v. q ≤ v) (get_or order q 0)
            (λ e. omega (arith, rw (← e) at (n.had q y))) (n.had q y))
            (le_or_lt p q);
        seen = λ t b o s j k. more_at (λ v. v ≤ latest t j) j
            (λ e. let c = latest_ge t b j k p (record { order = order; obeys = o; below = omega (arith, o.count); at = e }) in
            omega (arith, c, n.seen t b o s j k, ap (λ v. get_or now v 0) e))
            (n.seen t b o s j k);
      }

-- a part that is due by a position is seen there or earlier, and one that is not before it there or later
module _ (t : Task) (i p : ℕ) (l : i < t.size) (order old now : List ℕ) where
  pub due_seen : Obeys (due_by t i p) order → Lowered order (length order) old now → get_or now i 0 ≤ p
  due_seen o n =
      let (q, b, a) = stands (due_by t i p) o i l in
      omega (arith, o.closes q b, due_self t i p, ap (λ j. (due_by t i p).last j) a, rw a at (n.had q (omega (arith, o.count))))

  pub since_seen : Obeys (not_before t i p) order → Raised order (length order) old now → p ≤ get_or now i 0
  since_seen o n =
      let (q, b, a) = stands (not_before t i p) o i l in
      omega (arith, o.opens q b, since_self t i p, ap (λ j. (not_before t i p).first j) a, rw a at (n.had q (omega (arith, o.count))))

-- before any order is found
module _ (t : Task) (below : Below t) (y : T (solvable t)) where
  pub unseen_first : SeenFirst t (replicate t.size t.size)
  unseen_first j l = omega (arith, get_or-replicate {A = ℕ} t.size j t.size 0 l, soonest_in t below j l y, below j l)

  pub unseen_last : SeenLast t (replicate t.size 0)
  unseen_last j l = omega (arith, get_or-replicate {A = ℕ} t.size j 0 0 l)
