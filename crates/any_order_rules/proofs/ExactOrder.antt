-- EXACT SHARING HIDES THE ORDER of the placements, at every price.
use Prim.Native.Nat.{ℕ}
use mathlib.Core.Path.{ap}
use lib.Dec.{ltb}
use Rattle.model.specs.Plan.{uses, pairs}
use Rattle.model.specs.Choice.{Mounted}
use Rattle.model.specs.Interval.{named}
use Rattle.model.specs.Renumber.{rank}
use Rattle.subset_rules.specs.Subsets.{tips_used, exact_tip, exact_plan}
use Rattle.subset_rules.proofs.Drop.{rank_cong}
use Rattle.subset_rules.proofs.Exact.{exact_hides}
use Rattle.subset_rules.proofs.Table.{exact_table-hides}
use Rattle.any_order_rules.specs.Order.{Hides, ExactHidden}
use Rattle.any_order_rules.proofs.HiddenOrder.{pairs-by-uses, uses_mapped, named_hides}

names_hides : (m : ℕ) → Hides (λ lines. rank (named lines) m)
names_hides m xs ys h = rank_cong (named xs) (named ys) m (λ t _. named_hides t xs ys h)

module _ (mounted : Mounted) (price m : ℕ) where
  uses_hides : (t : ℕ) → Hides (λ lines. uses (exact_plan mounted price m lines) t)
  unfolding exact_plan
  uses_hides = uses_mapped (exact_tip mounted price m) (λ s xs ys h. exact_hides xs ys h mounted price m s)

  plan_hides : Hides (λ lines. pairs (exact_plan mounted price m lines))
  plan_hides xs ys h = pairs-by-uses (exact_plan mounted price m xs) (exact_plan mounted price m ys) (λ t. uses_hides t xs ys h)

  used_hides : Hides (λ lines. tips_used m (exact_plan mounted price m lines))
  unfolding tips_used
  used_hides xs ys h = rank_cong _ _ m (λ t _. ap (ltb 0) (uses_hides t xs ys h))

pub exact_hidden : (m : ℕ) (mounted : Mounted) (price : ℕ) → ExactHidden m mounted price
exact_hidden m mounted price = record {
  names = names_hides m;
  tips = λ s xs ys h. exact_hides xs ys h mounted price m s;
  plan_pairs = plan_hides mounted price m;
  used = used_hides mounted price m;
  tables = exact_table-hides price m;
}
