use Rattle.striking.specs.Early.{Widest}
use Rattle.striking.proofs.live.Live.list_widest.Given as goal

abbrev pub invariant-loop-a : goal.invariant-loop-a
invariant-loop-a l = Widest l.self.m l.self.inner.now l.self.upper.now l.self.goal l.widest l.a
