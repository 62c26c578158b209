-- The answers to a call by tips, one for each way that it ends.
use Prim.Native.Nat.{ℕ}
use native.Mathlib.Omega.{arith}
use mathlib.Core.Path.{◌≡◌, refl}
use mathlib.Core.List.{List, ◌++◌}
use mathlib.Core.Option.{none, some}
use lib.ListN.{length, drop}
use Rattle.model.specs.Choice.{Mounted}
use Rattle.refusal.specs.Told.{Refusal}
use Rattle.refusal.specs.Refusal as R
use Rattle.refusal.proofs.Laws.{or_first, or_next}
use Rattle.order_rules.specs.declared.Part.{Part}
use Rattle.order_rules.specs.declared.Rule.{Rule}
use Rattle.order_rules.specs.Call.{given_refusal}
use Rattle.order_rules.specs.Tips.{placing_by_tips, changes}
use Rattle.order_rules.specs.TipCall.{tips_refusal, given_by_tips, refusal_by_tips}
use Rattle.order_rules.proofs.TipCall.{given_told, lost_told, found_told, refused_tips, accepted_tips}
use Rattle.placing.specs.ByTips.{PlacedByTips}

module _ (parts : List Part) (rules : List Rule) (plan : List ℕ) (mounted : Mounted) (buffer : List ℕ) where
  abbrev n : ℕ
  n = length parts

  abbrev Placed : List ℕ → Refusal → ℕ → Type 0
  Placed out r changed = PlacedByTips parts rules plan mounted buffer out r changed

  -- after a refusal the buffer is as it was, and no change is told
  refused_placed : {r : Refusal} → r ≡ refusal_by_tips parts rules plan mounted (length buffer) → (r.number ≡ 0 → ⊥) → Placed buffer r 0
  refused_placed e z =
      let (order, changed) = refused_tips parts rules plan mounted buffer e z in
      record { refusal = e; order = order; changes = changed }

  -- 12, 13 and 14
  pub placed_given : {r : Refusal} → r ≡ given_refusal parts rules (length buffer) → (r.number ≡ 0 → ⊥) → Placed buffer r 0
  unfolding given_by_tips
  placed_given e z = refused_placed (given_told parts rules plan mounted (length buffer) (or_first e _ z) z) z

  module _ (passed : R.none ≡ given_refusal parts rules (length buffer)) where
    -- 4, 3 and 16
    pub placed_tips : {r : Refusal} → r ≡ tips_refusal n plan mounted → (r.number ≡ 0 → ⊥) → Placed buffer r 0
    unfolding given_by_tips
    placed_tips e z = refused_placed (given_told parts rules plan mounted (length buffer) (or_next passed _ refl e) z) z

    module _ (good : R.none ≡ tips_refusal n plan mounted) where
      both_passed : R.none ≡ given_by_tips parts rules plan mounted (length buffer)
      unfolding given_by_tips
      both_passed = or_next passed _ refl good

      pub placed_lost : none ≡ placing_by_tips parts rules plan mounted → Placed buffer (R.refuse 29) 0
      placed_lost h = refused_placed (lost_told parts rules plan mounted (length buffer) both_passed refl h) (λ z. omega (arith, z))

      pub placed_found : (order : List ℕ) → some order ≡ placing_by_tips parts rules plan mounted
          → Placed (order ++ drop n buffer) R.none (changes plan mounted order)
      placed_found order h =
          let e = found_told parts rules plan mounted (length buffer) both_passed refl order h in
          let (out, changed) = accepted_tips parts rules plan mounted buffer order e refl h in
          record { refusal = e; order = out; changes = changed }
