-- The answers to a call, one for each way that it ends.
use Prim.Native.Nat.{ℕ}
use native.Mathlib.Omega.{arith}
use mathlib.Core.Path.{◌≡◌, ap, sym}
use mathlib.Core.List.{List, ◌++◌}
use mathlib.Core.Option.{none, some}
use lib.ListN.{length, drop}
use Rattle.refusal.specs.Told.{Refusal}
use Rattle.refusal.specs.Refusal as R
use Rattle.order_rules.specs.declared.Part.{Part}
use Rattle.order_rules.specs.declared.Rule.{Rule}
use Rattle.order_rules.specs.Parts.{placing_order}
use Rattle.order_rules.specs.Call.{given_refusal, order_refusal}
use Rattle.order_rules.proofs.Refused.{given_refused, no_order, one_order, refused_buffer, accepted_buffer}
use Rattle.placing.specs.Rows.{Placed}

module _ (parts : List Part) (rules : List Rule) (buffer : List ℕ) where
  -- after a refusal the buffer is as it was
  refused : (r : Refusal) → r ≡ order_refusal parts rules (length buffer) → (r.number ≡ 0 → ⊥) → Placed parts rules buffer buffer r
  refused r e z = record { refusal = e; order = refused_buffer parts rules buffer e z }

  pub placed_given : {r : Refusal} → r ≡ given_refusal parts rules (length buffer) → (r.number ≡ 0 → ⊥) → Placed parts rules buffer buffer r
  placed_given e z = refused _ (given_refused parts rules (length buffer) e z) z

  module _ (passed : R.none ≡ given_refusal parts rules (length buffer)) where
    pub placed_none : none ≡ placing_order parts rules → Placed parts rules buffer buffer (R.refuse 29)
    placed_none is = refused _ (no_order parts rules (length buffer) passed is) (λ z. omega (arith, z))

    pub placed_order : (order : List ℕ) → some order ≡ placing_order parts rules
        → Placed parts rules buffer (order ++ drop (length parts) buffer) R.none
    placed_order order is =
        let e = one_order parts rules (length buffer) passed order is in
        record { refusal = e; order = accepted_buffer parts rules buffer order (sym (ap (λ (q : Refusal). q.number) e)) is }
