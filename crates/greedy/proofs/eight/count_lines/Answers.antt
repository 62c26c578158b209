use Rattle.std.proofs.Common.{arith}
use Rattle.greedy.proofs.FewTips.{uncounted, counted_room, counted_more, counted_all}
use Rattle.greedy.proofs.eight.count_lines.Goals as goal

pub loop-i-init : goal.loop-i-init
loop-i-init c = uncounted c.args.quantities.now c.args.sets.now

pub add_line-requires : goal.add_line-requires
add_line-requires c = counted_room c.requires c.loop-i.invariant (omega arith)

pub loop-i-preserved : goal.loop-i-preserved
loop-i-preserved c = counted_more c.requires c.loop-i.invariant (omega arith) c.add_line.new.counts c.type_inv.counts c.add_line.ensures

pub returns : goal.returns
returns c = counted_all c.requires c.loop-i.invariant (omega arith)
