-- Height decides: what changes for a tall fine part, and that nothing changes where no part is tall and fine.
use Prim.Native.Nat.{ℕ, ◌<◌}
use mathlib.Core.Path.{◌≡◌, refl, ap, sym, subst}
use mathlib.Core.Bool.{Bool, true, false, not, cond, ◌&&◌, ◌||◌, and-false}
use mathlib.Core.List.{List, ◌++◌}
use lib.Dec.{T}
use lib.ListN.{length, get_or, drop}
use borrow.Author.Tests.{eqb-true}
use Rattle.model.specs.Count.{All, each}
use Rattle.model.proofs.Tests.{true_T}
use Rattle.model.proofs.Lists.{all-at}
use Rattle.refusal.specs.Refusal as R
use Rattle.refusal.proofs.Laws.{or_same, or_none}
use Rattle.order_rules.specs.declared.Part.{Part}
use Rattle.order_rules.specs.declared.Rule.{Rule}
use Rattle.order_rules.specs.Order.{Obeys, Least}
use Rattle.order_rules.specs.Parts.{part_at, ruled, by_flags, before, window_ok, task_of, placing_order}
use Rattle.order_rules.specs.Call.{absent, ordered, given_refusal, order_refusal, order_after}
use Rattle.order_rules.specs.Before.{by_each_flag, task_before, placing_before, refusal_before, buffer_before}
use Rattle.order_rules.proofs.Least.{least-order, least_unique}
use Rattle.order_rules.proofs.Agree.{Agree, least_agree}
use Rattle.order_rules.proofs.Parts.{or_right, last-below, placing-order, tall-last}
use Rattle.order_rules.proofs.Ruling.{windows_passed}

-- a tall part, fine or not, has to precede no part by its flags
pub tall-free : (x y : Part) → T x.tall → by_flags x y ≡ false
unfolding by_flags
tall-free x y t = rw (true_T x.tall t, and-false x.fine)

-- a fine part that is not tall still precedes a tall fine one
pub connector_last : (x y : Part) → T x.fine → T (not x.tall) → T y.fine → T y.tall → T (by_flags x y)
connector_last x y _ n _ t = tall-last x y n t

-- so in no order that obeys does it stand behind one
pub connector_behind : (parts : List Part) (rules : List Rule) (order : List ℕ) → Obeys (task_of parts rules) order → (p q : ℕ) → p < q
    → q < length parts → (let x = part_at parts (get_or order q 0) in let y = part_at parts (get_or order p 0) in
    T x.fine → T (not x.tall) → T y.fine → T y.tall → ⊥)
unfolding before
connector_behind parts rules order o p q k l f n g t =
    let a = get_or order q 0 in
    let b = get_or order p 0 in
    let flags = connector_last (part_at parts a) (part_at parts b) f n g t in
    o.ordered p q k l (or_right (ruled rules a b) (by_flags (part_at parts a) (part_at parts b)) flags)

-- among parts that are not both tall and fine, each flag counts alone
flags_apart : (x y : Part) → T (not (x.fine && x.tall)) → T (not (y.fine && y.tall)) → by_flags x y ≡ by_each_flag x y
unfolding by_flags by_each_flag
flags_apart x y p q = rw (alone x.fine x.tall p, alone y.fine y.tall q)
  where
    alone : (f h : Bool) → T (not (f && h)) → (f && not h) ≡ f
    alone true true n = absurd n
    alone true false n = refl
    alone false h n = refl

-- what the flags ask now, some flag asked before
flags_fewer : (x y : Part) → T (by_flags x y) → T (by_each_flag x y)
unfolding by_flags by_each_flag
flags_fewer x y = fewer x.fine x.tall y.fine y.tall
  where
    fewer : (f h g k : Bool) → T (((f && not h) && not (g && not k)) || (not h && k)) → T ((f && not g) || (not h && k))
    fewer true h false k t = tt
    fewer true false true true t = tt
    fewer true false true false t = absurd t
    fewer true true true k t = absurd t
    fewer false false g true t = tt
    fewer false false g false t = absurd t
    fewer false true g k t = absurd t

-- HEIGHT DECIDES: every order that obeyed still does, whatever the parts
pub obeyed_still : (parts : List Part) (rules : List Rule) (order : List ℕ) → Obeys (task_before parts rules) order
    → Obeys (task_of parts rules) order
unfolding before
obeyed_still parts rules order o =
    record {
      count = o.count;
      parts = o.parts;
      different = o.different;
      opens = o.opens;
      closes = o.closes;
      ordered = λ p q k l t.
          let x = part_at parts (get_or order q 0) in
          let y = part_at parts (get_or order p 0) in
          let r = ruled rules (get_or order q 0) (get_or order p 0) in
          o.ordered p q k l (either r (by_flags x y) (by_each_flag x y) (flags_fewer x y) t);
    }
  where
    either : (r a b : Bool) → (T a → T b) → T (r || a) → T (r || b)
    either true a b f t = tt
    either false a b f t = f t

-- AS BEFORE: where no part is both tall and fine, number, place and order buffer are as they were
module _ (parts : List Part) (rules : List Rule) (apart : All (λ x. T (not (x.fine && x.tall))) parts) where
  placing-before : T (each (window_ok (length parts)) parts) → placing_order parts rules ≡ placing_before parts rules
  unfolding placing_before before
  placing-before w = least_unique (placing-order parts rules w) (least_agree agree (least-order (task_before parts rules) (last-below parts w)))
    where
      agree : Agree (task_before parts rules) (task_of parts rules)
      agree = record {
        size = refl;
        first = λ i l. refl;
        last = λ i l. refl;
        before = λ i j l k. ap (λ b. ruled rules i j || b)
            (sym (flags_apart (part_at parts i) (part_at parts j) (all-at _ apart i l) (all-at _ apart j k)));
      }

  -- so it is the least of the orders that obeyed, and none where none obeyed
  pub least-before : T (each (window_ok (length parts)) parts) → Least (task_before parts rules) (placing_order parts rules)
  unfolding placing_before
  least-before w =
      subst (Least (task_before parts rules)) (sym (placing-before w)) (least-order (task_before parts rules) (last-below parts w))

  passed_before : (room : ℕ) → (given_refusal parts rules room).number ≡ 0 → placing_order parts rules ≡ placing_before parts rules
  passed_before room z = placing-before (windows_passed parts rules room z)

  pub refusal-before : (room : ℕ) → order_refusal parts rules room ≡ refusal_before parts rules room
  unfolding order_refusal refusal_before
  refusal-before room = or_same (given_refusal parts rules room) (λ z. ap (λ o. R.when (absent o) 29) (passed_before room z))

  pub buffer-before : (buffer : List ℕ) → order_after parts rules buffer ≡ buffer_before parts rules buffer
  unfolding order_after buffer_before order_refusal
  buffer-before buffer = rw (← refusal-before (length buffer)) (by (R.accepts (order_refusal parts rules (length buffer))) refl)
    where
      by : (b : Bool) → R.accepts (order_refusal parts rules (length buffer)) ≡ b
          → cond b (ordered (placing_order parts rules) ++ drop (length parts) buffer) buffer
          ≡ cond b (ordered (placing_before parts rules) ++ drop (length parts) buffer) buffer
      by true e = ap (λ o. ordered o ++ drop (length parts) buffer)
          (passed_before (length buffer) (or_none (given_refusal parts rules (length buffer)) _ (eqb-true _ 0 e)).0)
      by false e = refl
