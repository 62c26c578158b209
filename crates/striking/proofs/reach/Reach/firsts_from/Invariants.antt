use Rattle.striking.specs.Early.{firsts_by, Found}
use Rattle.striking.proofs.reach.Reach.firsts_from.Given as goal

-- the narrower intervals of first tip a have been searched
abbrev pub invariant-loop-w : goal.invariant-loop-w
invariant-loop-w l =
    let s = l.self in
    Found s.lines.m s.set (firsts_by s.lines.m s.lines.sums.now s.inner.now s.upper.now s.lines.added s.set s.goal) l.known l.a l.w
