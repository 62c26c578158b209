-- What the call answers in each case, and what the answer means: the bounds, and 29 exactly where no order obeys.
use Prim.Native.Nat.{ℕ, ◌<◌}
use native.Mathlib.Omega.{arith}
use mathlib.Core.Path.{◌≡◌, refl, ap, sym, ◌∙◌}
use mathlib.Core.Bool.{true, false, not}
use mathlib.Core.List.{List, ◌++◌}
use mathlib.Core.Option.{Option, none, some}
use lib.Dec.{T}
use lib.ListN.{length, get_or, take, drop, take-append-drop, get_or-append}
use Rattle.model.specs.Count.{each, list_of}
use Rattle.model.proofs.Tests.{T_true}
use Rattle.model.proofs.ListOf.{length-list_of, list_of-at}
use Rattle.refusal.specs.Told.{Refusal}
use Rattle.refusal.specs.Refusal as R
use Rattle.refusal.proofs.Laws.{lent_refused, lent_accepted}
use Rattle.order_rules.specs.declared.Part.{Part}
use Rattle.order_rules.specs.declared.Rule.{Rule}
use Rattle.order_rules.specs.Parts.{window_ok, task_of, placing_order}
use Rattle.order_rules.specs.Call.{absent, given_refusal, order_refusal}
use Rattle.order_rules.proofs.Parts.{last-below}
use Rattle.order_rules.proofs.Refused.{given_refused, no_order, one_order}
use Rattle.order_rules.proofs.Ruling.{windows_passed, order_obeys, order_none}
use Rattle.windows.specs.Bounds.{solvable, soonest, latest}
use Rattle.windows.specs.Found.{FoundBounds}
use Rattle.windows.proofs.Bounds.{solvable_iff, bounds}
use Rattle.part_windows.specs.Call.{room, soonest_of, latest_of, first_after, last_after, WindowsAnswer, WindowsRule}

-- ---- an order, or none

module _ (parts : List Part) (rules : List Rule) where
  by : (o : Option (List ℕ)) → not (absent o) ≡ false → none ≡ o
  by none e = refl
  by (some order) e = absurd (T_true {b = false} (sym e))

  unsolved : solvable (task_of parts rules) ≡ false → none ≡ placing_order parts rules
  unfolding solvable placing_order
  unsolved e = by (placing_order parts rules) e

  one : (o : Option (List ℕ)) → not (absent o) ≡ true → (order : List ℕ) × (some order ≡ o)
  one none e = absurd (T_true {b = false} e)
  one (some order) e = (order, refl)

  solved : solvable (task_of parts rules) ≡ true → (order : List ℕ) × (some order ≡ placing_order parts rules)
  unfolding solvable placing_order
  solved e = one (placing_order parts rules) e

  -- ---- the rule

  passed : (space : ℕ) → (order_refusal parts rules space).number ≡ 0 → T (each (window_ok (length parts)) parts) × T (solvable (task_of parts rules))
  passed space z =
      let (a, found) = order_obeys parts rules space z in
      let w = windows_passed parts rules space a in
      (w, (solvable_iff (task_of parts rules) (last-below parts w)).1 found)

pub windows_rule : {parts : List Part} {rules : List Rule} {first₀ last₀ first last : List ℕ} {r : Refusal}
    → WindowsAnswer parts rules first₀ last₀ first last r → WindowsRule parts rules (room first₀ last₀) first last r
unfolding soonest_of latest_of first_after last_after
windows_rule {parts} {rules} {first₀} {last₀} {first} {last} {r} x =
    let t = task_of parts rules in
    record {
      exact = λ z i l.
          let (w, y) = passed parts rules space (rw x.refusal at z) in
          let g : get_or first i 0 ≡ soonest t i = taken (soonest t) first₀ first (rw x.refusal at z) x.firsts i l in
          let h : get_or last i 0 ≡ latest t i = taken (latest t) last₀ last (rw x.refusal at z) x.lasts i l in
          rw (g, h) (bounds t (last-below parts w) i l y);
      none = rw x.refusal (order_none parts rules space);
    }
  where
    space : ℕ
    space = room first₀ last₀

    taken : (f : ℕ → ℕ) (old new : List ℕ) → (order_refusal parts rules space).number ≡ 0
        → new ≡ R.lent_by (order_refusal parts rules space) (length parts) (list_of f (length parts)) old
        → (i : ℕ) → i < length parts → get_or new i 0 ≡ f i
    taken f old new z q i l =
        let v = q ∙ sym (lent_accepted {d = order_refusal parts rules space} refl (length parts) (list_of f (length parts)) old z refl) in
        ap (λ s. get_or s i 0) v ∙ get_or-append (list_of f (length parts)) _ 0 i (omega (arith, length-list_of f (length parts)))
        ∙ list_of-at f (length parts) i l

-- ---- the answer in each case

module _ (parts : List Part) (rules : List Rule) (first last : List ℕ) where
  abbrev n : ℕ
  n = length parts

  -- refused, the buffers are as they were
  pub refused_answer : {r : Refusal} → r ≡ order_refusal parts rules (room first last) → (r.number ≡ 0 → ⊥)
      → WindowsAnswer parts rules first last first last r
  unfolding first_after last_after
  refused_answer e z = record { refusal = e; firsts = lent_refused e n _ first z; lasts = lent_refused e n _ last z }

  pub given_answer : {r : Refusal} → r ≡ given_refusal parts rules (room first last) → (r.number ≡ 0 → ⊥)
      → WindowsAnswer parts rules first last first last r
  given_answer e z = refused_answer (given_refused parts rules (room first last) e z) z

  -- past what is given: what the search leaves in the part of the buffers that it is lent
  module _ (given : R.none ≡ given_refusal parts rules (room first last)) (f l : List ℕ) where
    pub none_answer : FoundBounds (task_of parts rules) (take n first) (take n last) f l false
        → WindowsAnswer parts rules first last (f ++ drop n first) (l ++ drop n last) (R.refuse 29)
    none_answer b =
        let s : solvable (task_of parts rules) ≡ false = sym b.told in
        let firsts : f ≡ take n first = rw s at b.firsts in
        let lasts : l ≡ take n last = rw s at b.lasts in
        rw (firsts, lasts, take-append-drop n first, take-append-drop n last)
        (refused_answer (no_order parts rules (room first last) given (unsolved parts rules s)) (λ z. omega (arith, z)))

    pub found_answer : FoundBounds (task_of parts rules) (take n first) (take n last) f l true
        → WindowsAnswer parts rules first last (f ++ drop n first) (l ++ drop n last) R.none
    unfolding soonest_of latest_of first_after last_after
    found_answer b =
        let s : solvable (task_of parts rules) ≡ true = sym b.told in
        let (order, is) = solved parts rules s in
        let e = one_order parts rules (room first last) given order is in
        record {
          refusal = e;
          firsts = lent_accepted e n _ first refl (rw s at b.firsts);
          lasts = lent_accepted e n _ last refl (rw s at b.lasts);
        }
