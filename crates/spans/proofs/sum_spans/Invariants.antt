use Rattle.std.proofs.Common.{◌+◌, ◌*◌}
use Rattle.placements.specs.Repeated.{repeated}
use Rattle.spans.specs.Spans.{sums_width}
use Rattle.spans.proofs.Fill.{Row, Summing}
use Rattle.spans.proofs.sum_spans.Given as goal

abbrev pub invariant-loop-x : goal.invariant-loop-x
invariant-loop-x l = Summing l.m (repeated l.quantities l.lines) l.sums ((l.x + 1) * sums_width l.m)

abbrev pub invariant-loop-y : goal.invariant-loop-y
invariant-loop-y l = Row l.m (repeated l.quantities l.lines) l.sums l.x l.y l.total
