-- The changes along an order, part by part.
use Prim.Native.Nat.{ℕ, suc, ◌+◌, ◌<◌, ◌≤◌}
use native.Mathlib.Numerals.{add-one}
use native.Mathlib.Omega.{arith}
use mathlib.Core.Path.{◌≡◌, ap, ◌∙◌}
use mathlib.Core.Bool.{cond}
use mathlib.Core.List.{List}
use lib.ListN.{length, get_or, drop}
use lib.Seq.{drop-cons, drop-length}
use Rattle.model.specs.Choice.{Mounted}
use Rattle.order_rules.specs.Tips.{head_after, is_change, changes}
use Rattle.order_rules.proofs.Tips.{changes_front, changes_end}

module _ (plan order : List ℕ) (head : Mounted) (i : ℕ) where
  -- one part more: its change, and those after it
  pub changes_more : i < length order → changes plan head (drop i order)
      ≡ cond (is_change plan head (get_or order i 0)) 1 0 + changes plan (head_after plan (get_or order i 0)) (drop (i + 1) order)
  changes_more l = rw (drop-cons order i 0 l, add-one) (changes_front plan head (get_or order i 0) (drop (suc i) order))

  -- past the last part none
  pub changes_over : length order ≤ i → i ≤ length order → changes plan head (drop i order) ≡ 0
  changes_over k l =
      let e : i ≡ length order = omega arith in
      ap (changes plan head) (ap (λ j. drop j order) e ∙ drop-length order) ∙ changes_end plan head
