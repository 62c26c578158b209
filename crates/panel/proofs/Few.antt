-- Each board planned alone has few pairs.
use Prim.Native.Nat.{ℕ, ◌≤◌}
use mathlib.Core.Path.{◌≡◌}
use mathlib.Core.List.{List}
use Rattle.model.specs.Limits.{most_pairs}
use Rattle.model.specs.Choice.{bare}
use Rattle.placements.specs.Good.{GoodLines}
use Rattle.refusal.specs.Told.{Refusal}
use Rattle.call_refusals.proofs.Calls.{plan_none}
use Rattle.line_calls.proofs.Left.{told_few, quick_plan_few}
use Rattle.panel.specs.Panel.{alone_refusal, alone_of}

pub alone_few : (earlier : Refusal) (m : ℕ) (qs lines : List ℕ) (o : ℕ) (rs others : List ℕ)
    → (earlier.number ≡ 0 → GoodLines m qs lines × GoodLines o rs others) → (room : ℕ)
    → let r = alone_of earlier m qs lines o rs others room in
    (r.first_pairs ≤ most_pairs) × (r.second_pairs ≤ most_pairs)
unfolding alone_of
alone_few earlier m qs lines o rs others given room =
    let r = alone_refusal earlier lines others room in
    let good : r.number ≡ 0 → GoodLines m qs lines × GoodLines o rs others = λ z. given (plan_none earlier _ room z).0 in
    (told_few r _ (λ z. quick_plan_few (good z).0 bare), told_few r _ (λ z. quick_plan_few (good z).1 bare))
