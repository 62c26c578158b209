use Rattle.std.proofs.Common.{length}
use Rattle.std.specs.Slice.Iter.{iter_rest}
use Rattle.std.specs.Iterator.Adapters.{rev_source}
use Rattle.counts.proofs.Read.{Unread, TopFrom}
use Rattle.counts.proofs.busiest_tips.Given as goal

abbrev pub invariant-loop-plane : goal.invariant-loop-plane
invariant-loop-plane l =
    let left = iter_rest (rev_source l.plane-iterator) in
    (goal.iterator-loop-plane).can_next l.plane-iterator ×
    (goal.iterator-loop-plane).is_finite l.plane-iterator ×
    Unread l.planes left × TopFrom l.planes l.rack (length left) l.tips l.top
