use Rattle.std.proofs.Common.{List, ℕ}
use Rattle.striking.specs.Striking.{Known}
use Rattle.striking.proofs.Follow.{So}
use Rattle.striking.proofs.reach.Reach.next_open.Given as goal

abbrev pub invariant-loop-a : goal.invariant-loop-a
invariant-loop-a l =
    (kept : ℕ) (lines rest : List ℕ) → (k : Known l.self.lines.m l.self.lines.added lines rest l.self.lines.sums.now
    l.self.inner.now l.self.upper.now) → So k l.self.set l.self.goal l.fn.outer kept l.w l.from → So k l.self.set l.self.goal l.outer kept l.w l.a
