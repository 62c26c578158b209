use Rattle.std.proofs.Common.{◌^◌, ◌∙◌, sym}
use borrow.Author.Tests.{lt-ltb, le-leb}
use lib.Pow.{pow_mono}
use native.Mathlib.Nat.{lt_of_lt_of_le}
use Rattle.model.specs.Plan.{in_rack}
use Rattle.tips.proofs.in_rack.Goals as goal

pub returns-then-rack-ge64 : goal.returns-then-rack-ge64
unfolding in_rack
returns-then-rack-ge64 c =
    let wide = c.if-rack-ge64.true in
    le-leb 64 c.args.rack wide ∙ sym (lt-ltb c.args.set (2 ^ c.args.rack) (lt_of_lt_of_le c.ranges.set.fits (pow_mono wide)))
