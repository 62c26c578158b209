use Rattle.std.proofs.Common.{ℕ, ◌≤◌, ◌<◌, ◌-◌, length, get_or}
use Rattle.flat_order.specs.Flat.{flat_task}
use Rattle.windows.specs.Bounds.{latest}
use Rattle.windows.specs.Found.{Seen}
use Rattle.windows.proofs.bounding.narrow_last.Given as goal

abbrev pub invariant-loop-last : goal.invariant-loop-last
invariant-loop-last g l = record {
  seen : Seen l.firsts l.lasts l.rows l.first l.last;
  lower : (j : ℕ) → get_or l.first j 0 ≤ get_or l.initial.first j 0;
  higher : (j : ℕ) → get_or l.initial.last j 0 ≤ get_or l.last j 0;
  to : latest (flat_task l.firsts l.lasts l.rows) l.i ≤ l.to;
  inside : l.to < length l.lasts;
}

abbrev pub decreases-loop-last : goal.decreases-loop-last
decreases-loop-last g l = l.to - get_or l.last l.i 0
