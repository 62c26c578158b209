use Rattle.std.proofs.Common.{◌≡◌, ◌+◌, ◌*◌, ◌-◌, ◌/◌, ◌%◌, take, slice_index}
use Rattle.model.specs.Count.{list_of}
use Rattle.spans.specs.Spans.{sums_width}
use Rattle.striking.specs.Striking.{own_at}
use Rattle.striking.proofs.rest.sums_without.Given as goal

-- the sums before this place are made
abbrev pub invariant-loop-x : goal.invariant-loop-x
invariant-loop-x l =
    let k = l.x * sums_width l.m in
    take k l.rest ≡ list_of (λ j. slice_index l.sums j - own_at l.low l.high l.quantity (j / sums_width l.m) (j % sums_width l.m)) k

abbrev pub invariant-loop-y : goal.invariant-loop-y
invariant-loop-y l =
    let k = l.x * sums_width l.m + l.y in
    take k l.rest ≡ list_of (λ j. slice_index l.sums j - own_at l.low l.high l.quantity (j / sums_width l.m) (j % sums_width l.m)) k
