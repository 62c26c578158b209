use Rattle.std.proofs.Common.{◌≡◌, ◌+◌, ◌-◌, ◌∙◌, arith}
use Rattle.model.specs.Plan.{has}
use Rattle.spread.proofs.Spread.{rank_back, rows_all}
use Rattle.spread.proofs.spread_table.Goals as goal

pub overflow_sub-first : goal.overflow_sub-first
overflow_sub-first c =
    let at = c.loop-a in
    omega (arith, rank_back (has c.args.ranking.now.set) at.a (omega arith) at.invariant.below c.has_tip.ensures c.from-first.ensures)

pub spread_next-requires : goal.spread_next-requires
spread_next-requires c =
    let at = c.loop-a in
    record {
      inside = omega arith;
      below = omega (arith, rank_back (has c.args.ranking.now.set) at.a (omega arith) at.invariant.below c.has_tip.ensures c.from-first.ensures);
      size = at.invariant.done.size ∙ c.requires;
    }

pub loop-a-preserved : goal.loop-a-preserved
loop-a-preserved c =
    let at = c.loop-a in
    let e : at.a ≡ at.a - 1 + 1 = omega arith in
    record {
      few = omega arith;
      below = omega (arith, rank_back (has c.args.ranking.now.set) at.a (omega arith) at.invariant.below c.has_tip.ensures c.from-first.ensures);
      done = c.spread_next.ensures c.args.table.now (rw (← e) at.invariant.done);
    }

pub returns : goal.returns
returns c =
    let a = c.args in
    let r = a.ranking.now in
    let e : c.loop-a.a ≡ 0 = omega arith in
    rows_all r.set r.m r.count r.counted a.table.now c.requires (rw e at c.loop-a.invariant.done)
