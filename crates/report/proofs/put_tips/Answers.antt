use Rattle.std.proofs.Common.{arith}
use Rattle.model.specs.Limits.{most_tips}
use Rattle.text.specs.Text.{joined}
use Rattle.text.proofs.Buffer.{start, both}
use Rattle.text.proofs.Joined.{joined-more, joined-within}
use Rattle.report.specs.Report.{tip_text}
use Rattle.report.proofs.put_tips.Goals as goal

pub loop-tip-init : goal.loop-tip-init
unfolding joined
loop-tip-init c = start

pub put_tip-next-requires-clause-room : goal.put_tip-next-requires-clause-room
put_tip-next-requires-clause-room c = omega (arith, joined-within (tip_text c.args.tips) c.loop-tip.tip most_tips c.loop-tip-test.true)

pub loop-tip-preserved : goal.loop-tip-preserved
loop-tip-preserved c =
    rw (joined-more (tip_text c.args.tips) c.loop-tip.tip) (both (omega arith) c.loop-tip.invariant c.put_tip-next.ensures)
