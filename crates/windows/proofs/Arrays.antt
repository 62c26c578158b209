-- The task of arrays with one position changed is the task with one window narrowed.
use Prim.Native.Nat.{ℕ, ◌<◌, min, max}
use native.Mathlib.Omega.{arith}
use mathlib.Core.Path.{◌≡◌, refl, ap, sym, ◌∙◌}
use mathlib.Core.Logic.{⊎_elim}
use mathlib.Core.Bool.{false, not}
use mathlib.Core.List.{List}
use mathlib.Core.Option.{none, some}
use lib.Dec.{T_not, not_T, eqb, eqb→eq, eqb_refl}
use lib.ListN.{length, get_or, set, take, length-set}
use lib.Seq.{get_or-take, get_or-set_same, get_or-set_other, length-take-le}
use Rattle.std.proofs.Common as R
use Rattle.model.proofs.Tests.{test, true_T, false_T, cond_case}
use Rattle.order_rules.specs.Order.{Task, Obeys}
use Rattle.order_rules.specs.Prefer.{Best}
use Rattle.order_rules.specs.Call.{absent}
use Rattle.order_rules.proofs.Agree.{Agree, obeys_agree, least_agree}
use Rattle.order_rules.proofs.Best.{best-order, best_none}
use Rattle.order_rules.proofs.First.{chooses_first}
use Rattle.order_rules.proofs.Least.{least-order, least_unique}
use Rattle.flat_order.specs.declared.sets.PartSet.{PartSet}
use Rattle.flat_order.specs.Sets.{has_part}
use Rattle.flat_order.specs.Flat.{flat_task, by_ready, ready_order, Leaves}
use Rattle.flat_order.proofs.Ready.{ready_obeys}
use Rattle.windows.specs.Bounds.{solvable, due_by, not_before}
use Rattle.windows.specs.Found.{Ready, Narrowable}
use Rattle.windows.proofs.Bounds.{Below, solvable_iff, due_below}

-- ---- orders of tasks that agree

pub solvable_agree : {t u : Task} → Agree t u → Below t → Below u → solvable t ≡ solvable u
unfolding solvable
solvable_agree {t} {u} a bt bu =
    ap (λ x. not (absent x)) (least_unique (least_agree a (least-order t bt)) (least-order u bu))

-- none is found where none obeys, whatever is preferred
search_none : (start : PartSet) (next : ℕ → PartSet) (t : Task) → Below t → none ≡ ready_order start next t → solvable t ≡ false
search_none start next t below e =
    let best : Best by_ready next start t none = rw e (best-order next (chooses_first has_part) start t below) in
    let no = (best_none best).0 refl in
    false_T (solvable t) (not_T (solvable t) (λ y. let (order, o) = (solvable_iff t below).0 y in no order o))

module _ (firsts lasts : List ℕ) (rows : List PartSet) (ready : Ready firsts lasts rows) where
  abbrev t : Task
  t = flat_task firsts lasts rows

  abbrev n : ℕ
  n = length lasts

  pub below : Below t
  below i l = ready.closes i l

  -- where some order obeys, the positions of each part can be narrowed
  pub narrowable : (i : ℕ) → i < length lasts → {order : List ℕ} → Obeys t order → Narrowable firsts lasts rows i
  narrowable i part {order} o = record { ready = ready; part = part; solvable = (solvable_iff t below).1 (order, o) }

  pub same_task : Agree t t
  same_task = record { size = refl; first = λ j h. refl; last = λ j h. refl; before = λ j k h m. refl }

  module _ (i p : ℕ) (l : i < n) where
    -- one last position lowered
    abbrev ends : List ℕ
    ends = set lasts i (min p (get_or lasts i 0))

    pub ends_size : length ends ≡ n
    ends_size = length-set lasts i (min p (get_or lasts i 0))

    ends_at : (j : ℕ) → get_or ends j 0 ≡ (due_by t i p).last j
    ends_at j =
        ⊎_elim
        (λ y.
        let e : i ≡ j = eqb→eq i j y in
        rw (← e, true_T (eqb i i) (eqb_refl i)) (get_or-set_same lasts i (min p (get_or lasts i 0)) 0 l))
        (λ m. rw (false_T (eqb i j) m)
        (get_or-set_other lasts i j (min p (get_or lasts i 0)) 0 (λ e. T_not (eqb i j) m (rw e (eqb_refl i)))))
        (test (eqb i j))

    pub ends_ready : Ready firsts ends rows
    ends_ready = record {
      sized = rw ends_size ready.sized;
      opens = rw ends_size ready.opens;
      closes = λ j h. let k : j < n = omega (arith, ends_size) in omega (arith, ends_size, ends_at j, due_below t i p below j k);
    }

    pub ends_agree : Agree (flat_task firsts ends rows) (due_by t i p)
    ends_agree = record { size = ends_size; first = λ j h. refl; last = λ j h. ends_at j; before = λ j k h m. refl }

    -- one first position raised
    module _ (given : List ℕ) (same : given ≡ take n firsts) where
      abbrev starts : List ℕ
      starts = set given i (max p (get_or given i 0))

      given_size : length given ≡ n
      given_size = ap length same ∙ length-take-le n firsts ready.sized.firsts

      given_at : (j : ℕ) → j < n → get_or given j 0 ≡ get_or firsts j 0
      given_at j h = ap (λ x. get_or x j 0) same ∙ get_or-take n firsts j 0 h

      starts_at : (j : ℕ) → j < n → get_or starts j 0 ≡ (not_before t i p).first j
      starts_at j h =
          ⊎_elim
          (λ y.
          let e : i ≡ j = eqb→eq i j y in
          rw (← e, true_T (eqb i i) (eqb_refl i), ← given_at i l)
          (get_or-set_same given i (max p (get_or given i 0)) 0 (omega (arith, given_size))))
          (λ m. rw (false_T (eqb i j) m)
          (get_or-set_other given i j (max p (get_or given i 0)) 0 (λ e. T_not (eqb i j) m (rw e (eqb_refl i))) ∙ given_at j h))
          (test (eqb i j))

      pub starts_ready : p < n → Ready starts lasts rows
      starts_ready b =
          let s = ready.sized in
          record {
            sized = record {
              parts = s.parts;
              firsts = omega (arith, given_size, length-set given i (max p (get_or given i 0)));
              rows = s.rows;
            };
            opens = λ j h.
                rw (starts_at j h)
                (cond_case (λ x. x < n) (eqb i j) (λ _. omega (arith, ready.opens j h)) (λ _. ready.opens j h));
            closes = ready.closes;
          }

      pub starts_agree : Agree (flat_task starts lasts rows) (not_before t i p)
      starts_agree = record { size = refl; first = starts_at; last = λ j h. refl; before = λ j k h m. refl }

-- ---- what is found, for a task that agrees

module _ {u v : Task} (a : Agree u v) (bu : Below u) (bv : Below v) (m n : ℕ) (e : m ≡ n) where
  pub some_agree : (o : R.Option (List ℕ)) → R.IfSome o (λ order. Obeys u (take m order)) → R.IfSome o (λ order. Obeys v (take n order))
  some_agree R.None h = tt
  some_agree (R.Some order) h = rw e at (obeys_agree a h)

  pub none_agree : (o : R.Option (List ℕ)) → R.IfNone o (solvable u ≡ false) → R.IfNone o (solvable v ≡ false)
  none_agree R.None h = sym (solvable_agree a bu bv) ∙ h
  none_agree (R.Some order) h = tt

-- an order that is found for any preference
module _ (post : ℕ → PartSet → Type 0) (n : ℕ) (next : ℕ → PartSet) (r : Leaves post n next) (start : PartSet) (t : Task) (below : Below t) where
  pub some_found : (o : R.Option (List ℕ)) → R.IfSome o (λ order. (m : ℕ → PartSet) → Leaves post n m → some (take n order) ≡ ready_order start m t)
      → R.IfSome o (λ order. Obeys t (take n order))
  some_found R.None h = tt
  some_found (R.Some order) h = ready_obeys start next t below (h next r)

  pub none_found : (o : R.Option (List ℕ)) → R.IfNone o ((m : ℕ → PartSet) → Leaves post n m → none ≡ ready_order start m t)
      → R.IfNone o (solvable t ≡ false)
  none_found R.None h = search_none start next t below (h next r)
  none_found (R.Some order) h = tt
