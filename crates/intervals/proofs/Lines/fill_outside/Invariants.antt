use Rattle.std.proofs.Common.{List, ℕ, ◌-◌}
use Rattle.model.specs.Interval.{C}
use Rattle.goal_rules.specs.Tables.{always}
use Rattle.spans.specs.Spans.{RunSums}
use Rattle.intervals.specs.Splits.{InsideAll}
use Rattle.intervals.specs.Outer.{Outside}
use Rattle.intervals.proofs.Lines.fill_outside.Given as goal

abbrev pub invariant-loop-w : goal.invariant-loop-w
invariant-loop-w l = (lines : List ℕ) → RunSums l.self.m 0 lines l.self.sums.now → InsideAll l.self.m lines l.inner
    → Outside l.self.m always (C lines) lines l.outer (l.w - 1) 0

abbrev pub invariant-loop-a : goal.invariant-loop-a
invariant-loop-a l = (lines : List ℕ) → RunSums l.self.m 0 lines l.self.sums.now → InsideAll l.self.m lines l.inner
    → Outside l.self.m always (C lines) lines l.outer l.w l.a
