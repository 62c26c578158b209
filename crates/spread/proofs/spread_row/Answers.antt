use Rattle.std.proofs.Common.{◌<◌, ◌∙◌, arith}
use Rattle.model.specs.Plan.{has}
use Rattle.spread.proofs.Spread.{read_room, rank_back, row_read, row_more}
use Rattle.spread.proofs.spread_row.Goals as goal

pub cell_at-requires : goal.cell_at-requires
cell_at-requires c = λ inside.
    let a = c.args in
    let r = a.ranking.now in
    let p = c.requires in
    let at = c.loop-b in
    let room = read_room (has r.set) r.m a.a at.b p.inside (omega arith) at.invariant.few in
    omega (arith, (rw (← p.below, ← r.counted, ← at.invariant.below) at room) inside, at.invariant.done.size, p.size)

pub overflow_sub-end : goal.overflow_sub-end
overflow_sub-end c =
    let at = c.loop-b in
    omega (arith, rank_back (has c.args.ranking.now.set) at.b (omega arith) at.invariant.below c.has_tip.ensures c.from-end.ensures)

pub loop-b-preserved : goal.loop-b-preserved
loop-b-preserved c =
    let a = c.args in
    let r = a.ranking.now in
    let p = c.requires in
    let at = c.loop-b in
    let before = at.invariant in
    let some : 0 < at.b = omega arith in
    let is = row_read r.set r.m r.count a.a r.counted a.table.now at.b some before.few before.done in
    record {
      few = omega arith;
      below = omega (arith, rank_back (has r.set) at.b some before.below c.has_tip.ensures c.from-end.ensures);
      done = row_more r.set r.m r.count a.a r.counted a.table.now at.b some before.few before.done p.inside p.size
          (c.cell_at.ensures ∙ (rw (← p.below, ← before.below) at is));
    }
