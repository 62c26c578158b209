use Rattle.std.proofs.Common.{◌≡◌, length, sym, ◌∙◌, arith}
use Rattle.along.proofs.Filled.{segment_end, segment_stop, segment_more}
use Rattle.along.proofs.find_segment.Goals as goal

pub returns-then-both-eq0 : goal.returns-then-both-eq0
returns-then-both-eq0 c = sym (c.loop-end.invariant.2 ∙ segment_stop _ _ _ (omega arith) c.if-both-eq0.true)

pub loop-end-preserved : goal.loop-end-preserved
loop-end-preserved c = (omega arith, omega arith, c.loop-end.invariant.2 ∙ segment_more _ _ _ (omega arith) c.if-both-eq0.false)

pub returns : goal.returns
returns c =
    let e : c.loop-end.end ≡ length c.args.sets.now = omega arith in
    sym (c.loop-end.invariant.2 ∙ rw e (segment_end _ _ _ (omega arith)))
