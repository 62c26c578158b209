use Rattle.head.specs.OnHead.{on_head}
use Rattle.subset_table.specs.Scores.{at}
use Rattle.exact.proofs.Picks.{Picking}
use Rattle.exact.proofs.picking.Tables.pick_tips.Given as goal

abbrev pub invariant-loop-left : goal.invariant-loop-left
invariant-loop-left l = Picking (on_head l.mounted) l.self.price (at l.self.counts.now) l.self.m l.all l.count l.left l.tips

abbrev pub decreases-loop-left : goal.decreases-loop-left
decreases-loop-left l = l.left
