use Rattle.std.proofs.Common.{arith}
use Rattle.intervals.proofs.Outer.{out_few, outside_more}
use Rattle.intervals.proofs.Lines.fill_outside.Goals as goal

pub overflow_cast-outer : goal.overflow_cast-outer
overflow_cast-outer c =
    let (lines, k, i) = c.requires.known in
    let few = out_few k i (c.loop-a.invariant lines k i) (omega arith) (omega arith) in
    record { fits = omega (arith, c.best_outside-best.ensures, few) }

pub loop-a-preserved : goal.loop-a-preserved
loop-a-preserved c = λ lines k i. outside_more k i (c.loop-a.invariant lines k i) (omega arith) (omega arith) c.best_outside-best.ensures
