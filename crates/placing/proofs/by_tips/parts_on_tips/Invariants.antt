use Rattle.std.proofs.Common.{◌≡◌, length}
use Rattle.placing.specs.ByTips.{OnTips}
use Rattle.placing.proofs.by_tips.parts_on_tips.Given as goal

abbrev pub invariant-loop-i : goal.invariant-loop-i
invariant-loop-i l = record {
  size : length l.sets ≡ 64;
  on : OnTips l.plan l.i l.sets;
}
