use Rattle.std.proofs.Common.{◌≡◌, ◌+◌}
use Rattle.layout.specs.Owners.{block, written}
use Rattle.layout.proofs.Counted.own_runs.Given as goal

abbrev pub invariant-loop-lo : goal.invariant-loop-lo
invariant-loop-lo l = l.owner ≡ written l.self.m (block l.a l.lo l.tip (l.a + l.w)) (λ x y. l.tip) l.initial.owner
