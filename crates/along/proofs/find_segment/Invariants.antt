use Rattle.std.proofs.Common.{◌≡◌, ◌≤◌, length}
use Rattle.along.specs.Segment.{segment_at}
use Rattle.along.proofs.find_segment.Given as goal

abbrev pub invariant-loop-end : goal.invariant-loop-end
invariant-loop-end l = (l.from ≤ l.end) × (l.end ≤ length l.sets) × (segment_at l.sets l.from l.start ≡ segment_at l.sets l.end l.common)
