use Rattle.std.proofs.Common.{◌≡◌, false, ℕ, ◌+◌, ◌≤◌}
use Rattle.striking.specs.Early.{live_by}
use Rattle.striking.proofs.live.Live.widest_from.Given as goal

-- no wider one is live
abbrev pub invariant-loop-w : goal.invariant-loop-w
invariant-loop-w l = (v : ℕ) → l.a + v ≤ l.self.m → l.w ≤ v → live_by l.self.m l.self.inner.now l.self.upper.now l.self.goal l.a v ≡ false
