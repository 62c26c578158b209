use Rattle.std.proofs.Common.{◌≡◌}
use Rattle.std.specs.Int.{w64, swap_bytes}
use Rattle.model.proofs.Loops.{mapped}
use Rattle.counts.proofs.put_back.Given as goal

abbrev pub invariant-loop-plane : goal.invariant-loop-plane
invariant-loop-plane l = l.planes ≡ mapped (swap_bytes w64) l.plane-index l.initial.planes
