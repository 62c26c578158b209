use Rattle.std.proofs.Common.{ℕ, ◌≤◌, ◌<◌, length, get_or}
use Rattle.flat_order.specs.Flat.{flat_task}
use Rattle.windows.specs.Bounds.{soonest, latest}
use Rattle.windows.specs.Found.{Seen}
use Rattle.windows.proofs.find_bounds.Given as goal

abbrev pub invariant-loop-i : goal.invariant-loop-i
invariant-loop-i g l = record {
  seen : Seen l.firsts l.lasts l.rows l.first l.last;
  lowered : (j : ℕ) → j < l.i → get_or l.first j 0 ≤ soonest (flat_task l.firsts l.lasts l.rows) j;
}

abbrev pub invariant-loop-i-2 : goal.invariant-loop-i-2
invariant-loop-i-2 g l = record {
  seen : Seen l.firsts l.lasts l.rows l.first l.last;
  lowered : (j : ℕ) → j < length l.lasts → get_or l.first j 0 ≤ soonest (flat_task l.firsts l.lasts l.rows) j;
  raised : (j : ℕ) → j < l.i → latest (flat_task l.firsts l.lasts l.rows) j ≤ get_or l.last j 0;
}
