use Rattle.std.proofs.Common.{arith, ◌≡◌, ◌*◌, ◌/◌, ◌%◌, ◌^◌, ◌<◌, ℕ, zero, suc, cond}
use lib.Dec.{eqb}
use Rattle.model.specs.Plan.{has}
use Rattle.counts.specs.Picked.{pick_by}
use Rattle.counts.proofs.picking.pick.Goals as goal

-- a number times a binary digit is the number where the digit is 1, else 0
times-is : (s d : ℕ) → d < 2 → s * d ≡ cond (eqb d 1) s 0
times-is s zero h = omega arith
times-is s (suc zero) h = omega arith
times-is s (suc (suc d)) h = absurd (omega arith)

pub returns : goal.returns
unfolding pick_by has
returns c = rw c.from-digit.ensures (times-is c.args.set (c.args.quantity / 2 ^ c.args.j % 2) (omega arith))
