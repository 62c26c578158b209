use Rattle.std.proofs.Common.{arith}
use Rattle.model.proofs.Run.{low-high, high-below}
use Rattle.striking.proofs.Early.{found_none}
use Rattle.striking.proofs.reach.Reach.first_on.Goals as goal

pub overflow_add-a-end : goal.overflow_add-a-end
overflow_add-a-end c =
    let s = c.args.self.now in
    let rack = s.lines.ready.rack in
    record { fits = omega (arith, c.lowest-a-end.ensures, low-high rack s.domain, high-below rack s.domain, rack) }

pub loop-a-init : goal.loop-a-init
loop-a-init c = found_none
