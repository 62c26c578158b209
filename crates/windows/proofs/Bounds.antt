-- A task with one window narrowed has an order exactly when one that obeys has the part there; the bounds are reached and exact.
use Prim.Native.Nat.{ℕ, ◌-◌, ◌≤◌, ◌<◌}
use native.Mathlib.Omega.{arith}
use mathlib.Core.Path.{◌≡◌, sym, ap, ◌∙◌}
use mathlib.Core.Logic.{◌↔◌, ⊎_elim}
use mathlib.Core.Bool.{Bool, not}
use mathlib.Core.List.{List}
use mathlib.Core.Option.{Option}
use lib.Dec.{T, eqb, eqb→eq, eqb_refl}
use lib.ListN.{get_or}
use Rattle.model.proofs.Tests.{le_or_lt, true_T, cond_case}
use Rattle.order_rules.specs.Number.{lowest}
use Rattle.order_rules.specs.Order.{Task, Obeys, Least, found, absent}
use Rattle.order_rules.specs.Call.{absent as is_absent}
use Rattle.order_rules.proofs.Number.{lowest_passes, lowest-at-most}
use Rattle.order_rules.proofs.Obeys.{place, place_at, completes}
use Rattle.order_rules.proofs.Least.{least-order}
use Rattle.windows.specs.Bounds.{solvable, due_by, not_before, soonest, latest, CanStand, Bounds}

-- each last position is a position
abbrev pub Below : Task → Type 0
Below t = (i : ℕ) → i < t.size → t.last i < t.size

-- ---- orders

pub solvable_iff : (t : Task) → Below t → T (solvable t) ↔ ((order : List ℕ) × Obeys t order)
unfolding solvable
solvable_iff t below = by (least-order t below)
  where
    by : {r : Option (List ℕ)} → Least t r → T (not (is_absent r)) ↔ ((order : List ℕ) × Obeys t order)
    by (found {order} o h) = (λ _. (order, o), λ _. tt)
    by (absent n) = (λ y. absurd y, λ (order, o). n order o)

-- each part stands somewhere
pub stands : (t : Task) {order : List ℕ} → Obeys t order → (i : ℕ) → i < t.size → (p : ℕ) × (p < t.size) × (get_or order p 0 ≡ i)
stands t {order} o i l =
    let h = place_at t (completes t o) i l tt in
    (place order i, omega (arith, h.0, o.count), h.1)

-- and at one position only
same_place : (t : Task) {order : List ℕ} → Obeys t order → (p q : ℕ) → p < t.size → q < t.size → get_or order p 0 ≡ get_or order q 0 → p ≡ q
same_place t o p q lp lq e =
    ⊎_elim
    (λ h. ⊎_elim (λ k. omega arith) (λ k. absurd (o.different p q k lq e)) (le_or_lt q p))
    (λ h. absurd (o.different q p h lp (sym e)))
    (le_or_lt p q)

-- ---- one window narrowed

module _ (t : Task) (i p : ℕ) where
  due_le : (j : ℕ) → (due_by t i p).last j ≤ t.last j
  due_le j = cond_case (λ x. x ≤ t.last j) (eqb i j) (λ _. omega arith) (λ _. omega arith)

  pub due_self : (due_by t i p).last i ≤ p
  due_self = rw (true_T (eqb i i) (eqb_refl i)) (omega arith)

  since_ge : (j : ℕ) → t.first j ≤ (not_before t i p).first j
  since_ge j = cond_case (λ x. t.first j ≤ x) (eqb i j) (λ _. omega arith) (λ _. omega arith)

  pub since_self : p ≤ (not_before t i p).first i
  since_self = rw (true_T (eqb i i) (eqb_refl i)) (omega arith)

  pub due_below : Below t → Below (due_by t i p)
  due_below below j l = omega (arith, due_le j, below j l)

  pub due_obeys : {order : List ℕ} → Obeys (due_by t i p) order → Obeys t order
  due_obeys {order} o = record {
    count = o.count;
    parts = o.parts;
    different = o.different;
    opens = o.opens;
    closes = λ q l. omega (arith, o.closes q l, due_le (get_or order q 0));
    ordered = o.ordered;
  }

  pub since_obeys : {order : List ℕ} → Obeys (not_before t i p) order → Obeys t order
  since_obeys {order} o = record {
    count = o.count;
    parts = o.parts;
    different = o.different;
    opens = λ q l. omega (arith, o.opens q l, since_ge (get_or order q 0));
    closes = o.closes;
    ordered = o.ordered;
  }

  module _ (q : ℕ) (s : CanStand t i q) where
    -- a part with the number i stands at q
    only : (r : ℕ) → r < t.size → i ≡ get_or s.order r 0 → r ≡ q
    only r l e = same_place t s.obeys r q l s.below (sym e ∙ sym s.at)

    obeys_due : q ≤ p → Obeys (due_by t i p) s.order
    obeys_due h =
        let o = s.obeys in
        record {
          count = o.count;
          parts = o.parts;
          different = o.different;
          opens = o.opens;
          closes = λ r l.
              let x = get_or s.order r 0 in
              cond_case (λ v. r ≤ v) (eqb i x)
              (λ y. omega (arith, only r l (eqb→eq i x y), o.closes r l))
              (λ _. o.closes r l);
          ordered = o.ordered;
        }

    obeys_since : p ≤ q → Obeys (not_before t i p) s.order
    obeys_since h =
        let o = s.obeys in
        record {
          count = o.count;
          parts = o.parts;
          different = o.different;
          opens = λ r l.
              let x = get_or s.order r 0 in
              cond_case (λ v. v ≤ r) (eqb i x)
              (λ y. omega (arith, only r l (eqb→eq i x y), o.opens r l))
              (λ _. o.opens r l);
          closes = o.closes;
          ordered = o.ordered;
        }

  module _ (below : Below t) (l : i < t.size) where
    -- the task with the part due by p has an order exactly when the part can stand at p or earlier
    pub due_iff : T (solvable (due_by t i p)) ↔ ((q : ℕ) × (q ≤ p) × CanStand t i q)
    due_iff =
        let e = solvable_iff (due_by t i p) (due_below below) in (
          λ y.
              let (order, o) = e.0 y in
              let (q, b, a) = stands (due_by t i p) o i l in (
                q,
                omega (arith, o.closes q b, due_self, ap (λ j. (due_by t i p).last j) a),
                record { order = order; obeys = due_obeys o; below = b; at = a },
              ),
          λ (q, h, s). e.1 (s.order, obeys_due q s h),
        )

    -- and so for p or later
    pub since_iff : T (solvable (not_before t i p)) ↔ ((q : ℕ) × (p ≤ q) × CanStand t i q)
    since_iff =
        let e = solvable_iff (not_before t i p) below in (
          λ y.
              let (order, o) = e.0 y in
              let (q, b, a) = stands (not_before t i p) o i l in (
                q,
                omega (arith, o.opens q b, since_self, ap (λ j. (not_before t i p).first j) a),
                record { order = order; obeys = since_obeys o; below = b; at = a },
              ),
          λ (q, h, s). e.1 (s.order, obeys_since q s h),
        )

-- ---- the bounds

module _ (t : Task) (below : Below t) (i : ℕ) (l : i < t.size) where
  -- where the part can stand, it can stand at its soonest position, and not before it
  pub soonest_le : (p : ℕ) → CanStand t i p → soonest t i ≤ p
  unfolding soonest
  soonest_le p s =
      lowest-at-most (λ q. solvable (due_by t i q)) t.size p ((due_iff t i p below l).1 (p, omega arith, s))

  pub soonest_reached : (p : ℕ) → CanStand t i p → CanStand t i (soonest t i)
  unfolding soonest
  soonest_reached p s =
      let f : ℕ → Bool = λ q. solvable (due_by t i q) in
      let v = lowest f t.size in
      let y = lowest_passes f t.size (omega (arith, soonest_le p s, s.below)) in
      let (q, h, a) = (due_iff t i v below l).0 y in
      let e : q ≡ v = omega (arith, soonest_le q a) in
      rw (← e) a

  -- and so at its latest
  pub latest_ge : (p : ℕ) → CanStand t i p → p ≤ latest t i
  unfolding latest
  latest_ge p s =
      let n = t.size in
      let g : ℕ → Bool = λ d. solvable (not_before t i (n - 1 - d)) in
      let e : n - 1 - (n - 1 - p) ≡ p = omega (arith, s.below) in
      let y : T (g (n - 1 - p)) = rw e ((since_iff t i p below l).1 (p, omega arith, s)) in
      omega (arith, lowest-at-most g n (n - 1 - p) y, s.below)

  pub latest_reached : (p : ℕ) → CanStand t i p → CanStand t i (latest t i)
  unfolding latest
  latest_reached p s =
      let n = t.size in
      let g : ℕ → Bool = λ d. solvable (not_before t i (n - 1 - d)) in
      let v = lowest g n in
      let e : n - 1 - (n - 1 - p) ≡ p = omega (arith, s.below) in
      let z : T (g (n - 1 - p)) = rw e ((since_iff t i p below l).1 (p, omega arith, s)) in
      let y = lowest_passes g n (omega (arith, lowest-at-most g n (n - 1 - p) z, s.below)) in
      let (q, h, a) = (since_iff t i (n - 1 - v) below l).0 y in
      let w : q ≡ n - 1 - v = omega (arith, latest_ge q a) in
      rw (← w) a

  -- where some order obeys, THE BOUNDS ARE REACHED, and no order that obeys has the part before or after them
  pub bounds : T (solvable t) → Bounds t i (soonest t i) (latest t i)
  bounds y =
      let (order, o) = (solvable_iff t below).0 y in
      let (p, b, a) = stands t o i l in
      let s : CanStand t i p = record { order = order; obeys = o; below = b; at = a } in
      record {
        first_reached = soonest_reached p s;
        last_reached = latest_reached p s;
        within = λ q r. (soonest_le q r, latest_ge q r);
      }
