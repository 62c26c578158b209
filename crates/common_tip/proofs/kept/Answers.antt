use Rattle.std.proofs.Common.{arith, ℕ, ◌≡◌, ◌<◌, ◌^◌, ap, sym, ◌∙◌}
use mathlib.Core.Path.{ap₂}
use lib.IntN.{ℤ, pos}
use lib.Signed.{lt_z}
use mir.Syntax.{w32}
use mir.Val.{SFits, to_z, of_z}
use mir.ValLaws.{to_z-of_z}
use Rattle.common_tip.specs.Common.{kept_by}
use Rattle.common_tip.proofs.kept.Goals as goal

-- the margin and the quantity as the code compares them, in 32 bits with a sign
below : (z : ℤ) (q : ℕ) {r : ℤ} → SFits w32 z → q < 2 ^ 8 → r ≡ pos q → lt_z z (pos q) ≡ lt_z (to_z w32 (of_z w32 z)) (to_z w32 (of_z w32 r))
below z q h few e =
    let held = ap (λ x. to_z w32 (of_z w32 x)) e ∙ to_z-of_z w32 (pos q) (record { sfits = omega arith }) in
    ap₂ lt_z (sym (to_z-of_z w32 z h)) (sym held)

pub returns-then-margin-from : goal.returns-then-margin-from
unfolding kept_by
returns-then-margin-from c =
    rw (below c.args.margin c.args.quantity c.ranges.margin c.ranges.quantity.fits c.from.ensures ∙ c.if-margin-from.true) c.narrow.ensures

pub returns-else-margin-from : goal.returns-else-margin-from
unfolding kept_by
returns-else-margin-from c =
    rw (below c.args.margin c.args.quantity c.ranges.margin c.ranges.quantity.fits c.from.ensures ∙ c.if-margin-from.false)
