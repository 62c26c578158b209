use Rattle.std.proofs.Common.{◌≡◌, ◌+◌, ◌-◌, ◌≤◌, ◌==◌}
use Rattle.model.specs.Count.{every}
use Rattle.checking.specs.Spread.{cell}
use Rattle.checking.proofs.ranked.Wide.row_copied.Given as goal

-- none of the places passed is lacking exactly where each is as in the next row
abbrev pub invariant-loop-b : goal.invariant-loop-b
invariant-loop-b l =
    let s = l.self in
    let passed = l.b - (l.a + 1) in
    record {
      few : l.lacking ≤ passed;
      counted : (l.lacking == 0) ≡ every (λ j. cell s.m s.table.now l.a (l.a + 1 + j) == cell s.m s.table.now (l.a + 1) (l.a + 1 + j)) passed;
    }
