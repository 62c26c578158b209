use Rattle.std.proofs.Common.{length}
use Rattle.std.specs.Slice.Iter.{iter_rest}
use Rattle.std.specs.Iterator.Adapters.{rev_source}
use Rattle.unplanned.proofs.Unread.{Unread}
use Rattle.unplanned.proofs.Dropped.{DroppedFrom}
use Rattle.unplanned.proofs.drop_places.Given as goal

abbrev pub invariant-loop-place : goal.invariant-loop-place
invariant-loop-place l =
    let rest = iter_rest (rev_source l.place-iterator) in
    (goal.iterator-loop-place).can_next l.place-iterator ×
    (goal.iterator-loop-place).is_finite l.place-iterator ×
    Unread l.places rest × DroppedFrom (length rest) (length l.places) (length l.initial.list) l.places l.initial.list l.last l.list
