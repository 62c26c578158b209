use Rattle.std.proofs.Common.{length}
use Rattle.head.specs.OnHead.{on_head}
use Rattle.greedy.proofs.Round.{State, to_plan}
use Rattle.greedy.proofs.eight.take_rounds.Given as goal

abbrev pub invariant-rounds : goal.invariant-rounds
invariant-rounds l = State (on_head l.mounted) l.rack l.quantities l.initial.left l.left l.plan l.shared

abbrev pub decreases-rounds : goal.decreases-rounds
decreases-rounds l = length (to_plan l.quantities l.left)
