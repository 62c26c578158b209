use Rattle.std.proofs.Common.{arith}
use Rattle.model.proofs.Lists.{all-at}
use Rattle.model.proofs.Loops.{mapped_next, mapped-more}
use Rattle.ranks.specs.Listed.{run_by}
use Rattle.ranks.proofs.renumber_lines.Goals as goal

pub renumber_line-requires : goal.renumber_line-requires
renumber_line-requires c =
    let at = c.loop-line in
    rw (at.invariant, mapped_next (run_by c.args.ranks.now) c.args.lines.now at.line-index) (all-at 0 c.requires at.line-index (omega arith))

pub loop-line-preserved : goal.loop-line-preserved
loop-line-preserved c =
    let at = c.loop-line in
    rw (c.renumber_line.ensures, at.invariant, mapped-more (run_by c.args.ranks.now) c.args.lines.now at.line-index (omega arith))
