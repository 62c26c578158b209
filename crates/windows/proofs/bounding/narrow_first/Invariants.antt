use Rattle.std.proofs.Common.{ℕ, ◌≤◌, ◌-◌, get_or}
use Rattle.flat_order.specs.Flat.{flat_task}
use Rattle.windows.specs.Bounds.{soonest}
use Rattle.windows.specs.Found.{Seen}
use Rattle.windows.proofs.bounding.narrow_first.Given as goal

abbrev pub invariant-loop-from : goal.invariant-loop-from
invariant-loop-from g l = record {
  seen : Seen l.firsts l.lasts l.rows l.first l.last;
  lower : (j : ℕ) → get_or l.first j 0 ≤ get_or l.initial.first j 0;
  from : l.from ≤ soonest (flat_task l.firsts l.lasts l.rows) l.i;
}

abbrev pub decreases-loop-from : goal.decreases-loop-from
decreases-loop-from g l = get_or l.first l.i 0 - l.from
