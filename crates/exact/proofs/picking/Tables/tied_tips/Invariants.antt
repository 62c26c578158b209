use Rattle.std.proofs.Common.{◌≡◌}
use Rattle.model.specs.CommonTip.{set_of}
use Rattle.subset_table.specs.Scores.{tied_at}
use Rattle.exact.proofs.picking.Tables.tied_tips.Given as goal

abbrev pub invariant-loop-t : goal.invariant-loop-t
invariant-loop-t l = l.set ≡ set_of (tied_at l.self.price l.self.counts.now l.self.scores.now l.u) l.t
