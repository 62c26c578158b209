use Rattle.std.proofs.Common.{arith}
use Rattle.intervals.specs.Outer.{outside_by}
use Rattle.intervals.proofs.Entry.{entry_some}
use Rattle.intervals.proofs.Lines.outside_at.Goals as goal

pub returns : goal.returns
unfolding outside_by
returns c =
    omega (arith, c.from-beside.ensures, entry_some c.args.self.now.m c.args.outer.now c.args.of.first c.args.of.width (omega arith))
