-- The order that the call accepts obeys, and no lower order does. If 12, 13 and 14 do not refuse, 29 refuses exactly when no order obeys.
use Prim.Native.Nat.{ℕ}
use native.Mathlib.Omega.{arith}
use mathlib.Core.Path.{◌≡◌, ap, sym, ◌∙◌}
use mathlib.Core.Bool.{Bool, cond}
use mathlib.Core.List.{List}
use mathlib.Core.Option.{Option, some}
use lib.Dec.{T, ltb}
use lib.ListN.{length, take, drop}
use lib.Seq.{take_at}
use Rattle.model.specs.Count.{each, first_fail}
use Rattle.refusal.specs.Told.{Refusal}
use Rattle.refusal.specs.Refusal as R
use Rattle.refusal.proofs.Laws.{or_none, at_none}
use Rattle.order_rules.specs.declared.Part.{Part}
use Rattle.order_rules.specs.declared.Rule.{Rule}
use Rattle.order_rules.specs.Order.{Obeys, LexLe, Least}
use Rattle.order_rules.specs.Parts.{window_ok, rule_ok, task_of, placing_order}
use Rattle.order_rules.proofs.Least.{least_obeys, least_at-most, least_none}
use Rattle.order_rules.proofs.Parts.{windows_good, placing-order}
use Rattle.order_rules.specs.Call.{first_bad, parts_refusal, given_refusal, order_refusal, order_after, NoneObeys, PlacingRule}
use Rattle.order_rules.proofs.Refused.{accepted_buffer}
use Rattle.order_rules.proofs.Searched.{or_not, number_only, accepted_some, none_obeys}

module _ (parts : List Part) (rules : List Rule) (room : ℕ) where
  abbrev n : ℕ
  n = length parts

  abbrev given : Refusal
  given = given_refusal parts rules room

  -- past 12 each window is good, and the placing order is the least order that obeys
  pub windows_passed : given.number ≡ 0 → T (each (window_ok n) parts)
  unfolding given_refusal R.scan
  windows_passed z =
      let twelve = (or_none (parts_refusal parts) _ z).0 in
      let bad = (or_none (R.when (ltb 128 n) 12) _ twelve).1 in
      windows_good parts (at_none 12 (first_bad parts) n (λ e. omega (arith, e)) bad)

  passed : given.number ≡ 0 → Least (task_of parts rules) (placing_order parts rules)
  passed z = placing-order parts rules (windows_passed z)

  -- 29 is none of the numbers before it
  pub given_not : given.number ≡ 29 → ⊥
  unfolding given_refusal R.scan
  given_not =
      or_not (parts_refusal parts) (R.or_else thirteen (R.when (ltb room n) 14))
      (or_not (R.when (ltb 128 n) 12) twelve (no (ltb 128 n) 12 0 (λ e. omega (arith, e))) (no (ltb bad n) 12 bad (λ e. omega (arith, e))))
      (or_not thirteen (R.when (ltb room n) 14) (no (ltb worse (length rules)) 13 worse (λ e. omega (arith, e)))
      (no (ltb room n) 14 0 (λ e. omega (arith, e))))
    where
      bad : ℕ
      bad = first_bad parts

      worse : ℕ
      worse = first_fail (rule_ok n) rules

      twelve : Refusal
      twelve = R.refuse_at 12 (first_bad parts) n

      thirteen : Refusal
      thirteen = R.refuse_at 13 (first_fail (rule_ok n) rules) (length rules)

      no : (test : Bool) (number place : ℕ) → (number ≡ 29 → ⊥)
          → (cond {A = Refusal} test (record { number = number; place = place }) R.none).number ≡ 29 → ⊥
      no test number place a = number_only test number place a (λ e. omega (arith, e))

  -- what is accepted has an order
  pub order_obeys : (order_refusal parts rules room).number ≡ 0 → (given.number ≡ 0) × ((order : List ℕ) × Obeys (task_of parts rules) order)
  unfolding order_refusal
  order_obeys z =
      let (a, (order, h)) = accepted_some given (placing_order parts rules) z in
      (a, (order, least_obeys (rw h (passed a))))

  pub order_none : NoneObeys (task_of parts rules) given (order_refusal parts rules room)
  unfolding order_refusal
  order_none = none_obeys given (placing_order parts rules) (task_of parts rules) given_not (λ z. least_none (passed z))

module _ (parts : List Part) (rules : List Rule) (buffer : List ℕ) where
  abbrev given_here : Refusal
  given_here = given_refusal parts rules (length buffer)

  abbrev answer : Option (List ℕ)
  answer = placing_order parts rules

  found : (order_refusal parts rules (length buffer)).number ≡ 0 → Obeys (task_of parts rules) (take (length parts) (order_after parts rules buffer))
      × ((other : List ℕ) → Obeys (task_of parts rules) other → LexLe (take (length parts) (order_after parts rules buffer)) other)
  unfolding order_refusal
  found z =
      let (a, (order, h)) = accepted_some given_here answer z in
      let l : Least (task_of parts rules) (some order) = rw h (passed parts rules (length buffer) a) in
      let b : take (length parts) (order_after parts rules buffer) ≡ order =
      ap (take (length parts)) (sym (accepted_buffer parts rules buffer order z h))
      ∙ take_at order (drop (length parts) buffer) (length parts) (least_obeys l).count in
      (rw b (least_obeys l), λ other o. rw b (least_at-most l o))

  pub placing_rule : PlacingRule parts rules (length buffer) (order_after parts rules buffer) (order_refusal parts rules (length buffer))
  unfolding order_refusal
  placing_rule = record {
    obeys = λ z. (found z).0;
    least = λ z other o. (found z).1 other o;
    none = order_none parts rules (length buffer);
  }
