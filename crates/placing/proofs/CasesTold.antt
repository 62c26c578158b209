-- What the placing order refuses is what its cases tell.
use Prim.Native.Nat.{ℕ}
use mathlib.Core.Path.{◌≡◌, sym, subst}
use mathlib.Core.List.{List}
use Rattle.model.specs.Choice.{Mounted}
use Rattle.refusal.specs.Told.{Refusal}
use Rattle.cases.specs.Cases.{Told}
use Rattle.order_rules.specs.declared.Part.{Part}
use Rattle.order_rules.specs.declared.Rule.{Rule}
use Rattle.order_rules.specs.Call.{order_refusal}
use Rattle.order_rules.specs.TipCall.{refusal_by_tips}
use Rattle.order_cases.specs.Cases.{order_cases, tip_order_cases}
use Rattle.order_cases.proofs.Told.{order_told, tip_order_told}

pub parts_told : (parts : List Part) (rules : List Rule) (room : ℕ) {r : Refusal} → r ≡ order_refusal parts rules room
    → Told (order_cases parts rules room) r
parts_told parts rules room e = subst (Told (order_cases parts rules room)) (sym e) (order_told parts rules room)

-- and by tips
module _ (plan : List ℕ) (mounted : Mounted) (room : ℕ) {r : Refusal} where
  pub parts_by_tips_told : (parts : List Part) (rules : List Rule) → r ≡ refusal_by_tips parts rules plan mounted room
      → Told (tip_order_cases parts rules plan mounted room) r
  parts_by_tips_told parts rules e =
      subst (Told (tip_order_cases parts rules plan mounted room)) (sym e) (tip_order_told parts rules room plan mounted)
