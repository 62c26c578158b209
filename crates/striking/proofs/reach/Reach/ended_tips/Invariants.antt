use Rattle.std.proofs.Common.{◌≡◌}
use Rattle.model.specs.CommonTip.{set_of}
use Rattle.striking.specs.Striking.{ends_by}
use Rattle.striking.proofs.reach.Reach.ended_tips.Given as goal

abbrev pub invariant-loop-t : goal.invariant-loop-t
invariant-loop-t l =
    l.kept ≡ set_of (ends_by l.self.lines.m l.self.lines.sums.now l.self.inner.now l.self.lines.added l.set l.self.goal
    l.outside l.of.first l.of.width) l.t
