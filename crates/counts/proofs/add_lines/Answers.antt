use Rattle.std.proofs.Common.{arith}
use Rattle.counts.proofs.Picked.{ones_between, ones_fit, ones_whole}
use Rattle.counts.proofs.add_lines.Goals as goal

pub add_all-requires : goal.add_all-requires
add_all-requires c =
    let b = c.bounds_of-bounds.ensures in
    ones_fit c.requires.countable (ones_between (omega arith) (omega arith) b.low b.high) c.requires.empty

pub returns-then-bounds-eq1-2 : goal.returns-then-bounds-eq1-2
returns-then-bounds-eq1-2 c =
    let b = c.bounds_of-bounds.ensures in
    ones_whole c.requires.countable (ones_between (omega arith) (omega arith) b.low b.high) c.requires.empty c.add_all.ensures
