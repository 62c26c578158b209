use Rattle.std.proofs.Common.{◌≡◌, ◌+◌, ◌-◌, ◌≤◌, ◌||◌, ◌==◌}
use Rattle.model.specs.Count.{every}
use Rattle.model.specs.Plan.{has}
use Rattle.checking.specs.Spread.{cell}
use Rattle.checking.proofs.ranked.Wide.columns_copied.Given as goal

-- none of the places passed is lacking exactly where each is named or as the place before it
abbrev pub invariant-loop-b : goal.invariant-loop-b
invariant-loop-b l =
    let s = l.self in
    let passed = l.b - (l.a + 1) in
    record {
      few : l.lacking ≤ passed;
      counted : (l.lacking == 0)
          ≡ every (λ j. has s.names (l.a + 1 + j) || (cell s.m s.table.now l.a (l.a + 1 + j) == cell s.m s.table.now l.a (l.a + j))) passed;
    }
