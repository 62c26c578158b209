use Rattle.std.proofs.Common.{sym}
use native.Mathlib.Nat.{lt_of_lt_of_le, mod-eq_of_lt}
use lib.Pow.{pow_mono}
use Rattle.mend.proofs.line.mended_set.Goals as goal

pub returns-then-rack-ge64 : goal.returns-then-rack-ge64
returns-then-rack-ge64 c = sym (mod-eq_of_lt (lt_of_lt_of_le c.ranges.set.fits (pow_mono c.if-rack-ge64.true)))
