use Rattle.std.proofs.Common.{◌≡◌, take}
use Rattle.placements.specs.Repeated.{repeated}
use Rattle.spans.specs.Spans.{counts}
use Rattle.spans.proofs.count_spans.Given as goal

abbrev pub invariant-loop-i : goal.invariant-loop-i
invariant-loop-i l = l.sums ≡ counts l.m (repeated (take l.i l.quantities) (take l.i l.lines))
