use Rattle.std.proofs.Common.{List, ℕ, bit_xor, ◌+◌, ◌-◌, ◌≤◌, IfSome}
use Rattle.std.specs.Option.{unwrap_or}
use Rattle.model.specs.Plan.{Domain}
use Rattle.striking.specs.Striking.{Known}
use Rattle.striking.proofs.Follow.{So}
use Rattle.striking.proofs.reach.Reach.kept_tips.Given as goal

abbrev pub invariant-loop-w : goal.invariant-loop-w
invariant-loop-w l = record {
  left : Domain l.self.lines.m (bit_xor l.self.set l.kept);
  followed : (lines rest : List ℕ) → (k : Known l.self.lines.m l.self.lines.added lines rest l.self.lines.sums.now
      l.self.inner.now l.self.upper.now) → So k l.self.set l.self.goal l.outer l.kept (l.w - 1) 0;
}

abbrev pub invariant-loop-next : goal.invariant-loop-next
invariant-loop-next l = record {
  left : Domain l.self.lines.m (bit_xor l.self.set l.kept);
  found : IfSome l.next (λ a. a + l.w ≤ l.self.lines.m);
  followed : (lines rest : List ℕ) → (k : Known l.self.lines.m l.self.lines.added lines rest l.self.lines.sums.now
      l.self.inner.now l.self.upper.now) → So k l.self.set l.self.goal l.outer l.kept l.w (unwrap_or l.next (l.self.lines.m + 1 - l.w));
}

abbrev pub decreases-loop-next : goal.decreases-loop-next
decreases-loop-next l = l.self.lines.m + 1 - unwrap_or l.next (l.self.lines.m + 1 - l.w)
