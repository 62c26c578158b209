use Rattle.std.proofs.Common.{length}
use Rattle.head.specs.OnHead.{on_head}
use Rattle.greedy.specs.Rounds.{Sizes}
use Rattle.greedy.proofs.Round.{Ongoing, to_plan}
use Rattle.greedy.proofs.Rooms.take_rounds.Given as goal

abbrev pub invariant-rounds : goal.invariant-rounds
invariant-rounds g l =
    Ongoing (on_head l.mounted) l.rack l.shared l.quantities l.initial.left l.left l.plan l.self.counts l.self.unplanned l.self.list
    × Sizes l.fn.self.list l.fn.self.places l.fn.self.sets l.fn.self.taken l.self.list l.self.places l.self.sets l.self.taken

abbrev pub decreases-rounds : goal.decreases-rounds
decreases-rounds g l = length (to_plan l.quantities l.left)
