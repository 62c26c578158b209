use Rattle.std.proofs.Common.{◌≡◌}
use Rattle.model.specs.Count.{largest}
use Rattle.greedy.specs.Eight.{count_in}
use Rattle.greedy.proofs.eight.largest.Given as goal

abbrev pub invariant-loop-count : goal.invariant-loop-count
invariant-loop-count l = l.most ≡ largest (count_in l.counts) l.count-index
