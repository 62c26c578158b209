use Rattle.std.proofs.Common.{arith}
use Rattle.windows.proofs.Seen.{lowered_none, raised_none, lowered_more, raised_more}
use Rattle.windows.proofs.noting.note.Goals as goal

pub loop-p-init : goal.loop-p-init
loop-p-init c = record { lowered = lowered_none c.args.order.now c.args.first.now; raised = raised_none c.args.order.now c.args.last.now }

pub loop-p-preserved : goal.loop-p-preserved
loop-p-preserved c =
    let a = c.args in
    let l = c.loop-p in
    let i = l.invariant in
    let part = c.requires.parts l.p c.loop-p-test.true in
    record {
      lowered = rw (c.min.ensures, c.from-x.ensures)
          (lowered_more a.order.now a.first.now l.first l.p c.loop-p-test.true (omega (arith, part, i.lowered.size, c.requires.first)) i.lowered);
      raised = rw (c.max.ensures, c.from-x.ensures)
          (raised_more a.order.now a.last.now l.last l.p c.loop-p-test.true (omega (arith, part, i.raised.size, c.requires.last)) i.raised);
    }
