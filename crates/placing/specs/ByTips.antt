-- The placing order by tips: the parts that are ready, and what the call leaves.
use Rattle.std.specs.Prelude.{ℕ, ◌≡◌, List, length}
use Rattle.model.specs.Choice.{Mounted}
use Rattle.refusal.specs.Told.{Refusal}
use Rattle.order_rules.specs.declared.Part.{Part}
use Rattle.order_rules.specs.declared.Rule.{Rule}
use Rattle.order_rules.specs.Tips.{tip_at}
use Rattle.order_rules.specs.TipCall.{refusal_by_tips, buffer_by_tips, changes_by_tips}
use Rattle.flat_order.specs.declared.sets.PartSet.{PartSet}
use Rattle.flat_order.specs.Flat.{AtPlaces}

-- the first n parts, each in the set of its tip
abbrev pub OnTips : List ℕ → ℕ → List PartSet → Type 0
OnTips plan n sets = AtPlaces (tip_at plan) n sets

-- the answer is that of the call for a placing order by tips, and so are the order buffer and the number of changes
pub record PlacedByTips (parts : List Part) (rules : List Rule) (plan : List ℕ) (mounted : Mounted) (old new : List ℕ) (r : Refusal)
    (changed : ℕ) : Type 0 where
  pub refusal : r ≡ refusal_by_tips parts rules plan mounted (length old)
  pub order : new ≡ buffer_by_tips parts rules plan mounted old
  pub changes : changed ≡ changes_by_tips parts rules plan mounted (length old)
