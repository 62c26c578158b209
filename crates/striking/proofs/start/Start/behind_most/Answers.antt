use Rattle.std.proofs.Common.{arith}
use Rattle.striking.proofs.Early.{tip_in}
use Rattle.striking.proofs.start.Start.behind_most.Goals as goal

pub overflow_sub-behind : goal.overflow_sub-behind
overflow_sub-behind c =
    let line = c.args.self.now.line in
    let within = tip_in line.lines.ready.rack line.domain c.args.c c.requires.whole c.requires.own in
    omega (arith, within)

pub meeting_at-requires : goal.meeting_at-requires
meeting_at-requires c =
    c.args.self.now.leaving.behind c.args.of.first c.args.of.width c.args.c c.requires.whole c.requires.own (omega arith)
