use Rattle.tipshare_run.proofs.Planned.{filled, printed_is, planned_whole, planned_begun}
use Rattle.tipshare_run.proofs.plan.Goals as goal

pub returns-clause-whole : goal.returns-clause-whole
returns-clause-whole g c =
    let read = filled g.I.Read.remaining _ _ _ _ _ c.take.ensures.inner c.take.ensures.limit c.new-file.ensures.items c.in_default.ensures.bytes in
    let printed = printed_is _ _ c.deref.result.now c.summarize-size.new.out c.summarize-size.result read
    c.deref.ensures.value c.summarize-size.ensures.text in
    planned_whole _ _ _ _ _ printed c.print.ensures.whole

pub returns-clause-part : goal.returns-clause-part
returns-clause-part g c =
    let read = filled g.I.Read.remaining _ _ _ _ _ c.take.ensures.inner c.take.ensures.limit c.new-file.ensures.items c.in_default.ensures.bytes in
    let printed = printed_is _ _ c.deref.result.now c.summarize-size.new.out c.summarize-size.result read
    c.deref.ensures.value c.summarize-size.ensures.text in
    planned_begun _ _ _ _ printed c.print.ensures.part
