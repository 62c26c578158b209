use Rattle.std.proofs.Common.{◌≡◌, length}
use Rattle.greedy.specs.Rounds.{ListTaken}
use Rattle.greedy.proofs.Lists.{Ahead}
use Rattle.greedy.proofs.Rooms.take_places.Given as goal

abbrev pub invariant-loop-k : goal.invariant-loop-k
invariant-loop-k g l = record {
  taken : ListTaken l.tip l.k l.fn.self.places l.list l.quantities l.initial.left l.initial.plan l.left l.plan l.sets l.taken;
  ahead : Ahead l.k l.found l.fn.self.places l.list l.initial.left l.left;
  sets_size : length l.sets ≡ length l.fn.self.sets;
  taken_size : length l.taken ≡ length l.fn.self.taken;
}
