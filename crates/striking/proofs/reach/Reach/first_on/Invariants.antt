use Rattle.striking.specs.Early.{firsts_by, Found}
use Rattle.striking.proofs.reach.Reach.first_on.Given as goal

abbrev pub invariant-loop-a : goal.invariant-loop-a
invariant-loop-a l =
    let s = l.self in
    Found s.lines.m s.set (firsts_by s.lines.m s.lines.sums.now s.inner.now s.upper.now s.lines.added s.set s.goal) l.known l.a 0
