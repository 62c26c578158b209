use Rattle.std.proofs.Common.{arith}
use Rattle.striking.proofs.Early.{tip_in}
use Rattle.striking.proofs.start.Start.before_most.Goals as goal

pub overflow_sub-before : goal.overflow_sub-before
overflow_sub-before c =
    let line = c.args.self.now.line in
    (tip_in line.lines.ready.rack line.domain c.args.c c.requires.whole c.requires.own).0

pub meeting_at-requires : goal.meeting_at-requires
meeting_at-requires c =
    c.args.self.now.leaving.before c.args.of.first c.args.of.width c.args.c c.requires.whole c.requires.own (omega arith)
