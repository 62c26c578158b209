use Rattle.std.proofs.Common.{◌≡◌, ◌-◌, max}
use Rattle.model.specs.Count.{largest}
use Rattle.intervals.specs.Outer.{before_by, behind_by}
use Rattle.intervals.proofs.Lines.best_outside.Given as goal

abbrev pub invariant-loop-j : goal.invariant-loop-j
invariant-loop-j l = l.best ≡ largest (before_by l.self.m l.self.sums.now l.inner l.outer l.a l.w) l.j

abbrev pub invariant-loop-k : goal.invariant-loop-k
invariant-loop-k l =
    l.best ≡ max (largest (before_by l.self.m l.self.sums.now l.inner l.outer l.a l.w) (l.self.m - l.end))
    (largest (behind_by l.self.m l.self.sums.now l.inner l.outer l.a l.w) l.k)
