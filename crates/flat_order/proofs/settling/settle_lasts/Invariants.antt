use Rattle.std.proofs.Common.{◌-◌, length}
use Rattle.flat_order.proofs.Waiting.{Before, Turn}
use Rattle.flat_order.proofs.Ended.{Ended}
use Rattle.flat_order.proofs.settling.settle_lasts.Given as goal

abbrev pub invariant-loop-e : goal.invariant-loop-e
invariant-loop-e l = record {
  before : Before l.rows l.fn.lasts l.settled l.lasts l.left l.due l.e;
  ended : Ended l.all l.fn.lasts l.lasts l.e l.ends l.levels;
}

abbrev pub invariant-loop-b : goal.invariant-loop-b
invariant-loop-b l = record {
  turn : Turn l.rows l.fn.lasts l.settled l.lasts l.left l.due l.e;
  ended : Ended l.all l.fn.lasts l.lasts l.e l.ends l.levels;
}

abbrev pub decreases-loop-b : goal.decreases-loop-b
decreases-loop-b l = length l.fn.lasts - l.settled
