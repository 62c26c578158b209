use Rattle.std.proofs.Common.{◌≡◌, ℕ, ltb}
use Rattle.flat_order.specs.Sets.{has_part}
use Rattle.flat_order.proofs.positions.first_parts.Given as goal

abbrev pub invariant-loop-i : goal.invariant-loop-i
invariant-loop-i l = (x : ℕ) → has_part l.all x ≡ ltb x l.i
