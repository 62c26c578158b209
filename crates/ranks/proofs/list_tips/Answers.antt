use Rattle.std.proofs.Common.{◌+◌, arith}
use Rattle.model.specs.Plan.{has}
use Rattle.model.proofs.Rank.{rank_le}
use Rattle.ranks.proofs.Listed.{rank_next, ranks-more, named_more}
use Rattle.ranks.proofs.list_tips.Goals as goal

pub loop-t-preserved : goal.loop-t-preserved
loop-t-preserved c =
    let at = c.loop-t in
    let ok = has c.args.set in
    let before = at.invariant in
    let size = rank_next ok at.t before.size c.has_tip.ensures c.from-r.ensures in
    record {
      size = size;
      few = omega (arith, size, rank_le ok (at.t + 1));
      ranked = rw before.size (ranks-more (omega arith) before.ranked);
      listed = rw before.size (named_more (omega arith) before.listed);
    }
