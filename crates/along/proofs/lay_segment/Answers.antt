use Rattle.std.proofs.Common.{ap, ◌∙◌, arith}
use Rattle.along.specs.Segment.{laid}
use Rattle.along.proofs.Filled.{segment_in}
use Rattle.along.proofs.lay_segment.Goals as goal

pub fill-requires-clause-order : goal.fill-requires-clause-order
fill-requires-clause-order c =
    let a = c.args in
    rw c.find_segment-found.ensures (segment_in a.sets.now a.plan.now a.from a.start c.requires.from c.requires.room).0

pub fill-requires-clause-room : goal.fill-requires-clause-room
fill-requires-clause-room c =
    let a = c.args in
    let h = segment_in a.sets.now a.plan.now a.from a.start c.requires.from c.requires.room in
    rw c.find_segment-found.ensures (omega (arith, h.1, c.requires.room))

pub returns-clause-end : goal.returns-clause-end
returns-clause-end c = ap (λ s. s.end) c.find_segment-found.ensures

pub returns-clause-plan : goal.returns-clause-plan
unfolding laid
returns-clause-plan c = c.fill.ensures ∙ rw (c.low_tip.ensures, c.find_segment-found.ensures)
