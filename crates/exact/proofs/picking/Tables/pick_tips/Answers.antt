use Rattle.std.proofs.Common.{◌≡◌, ◌<◌, length, arith}
use Rattle.model.proofs.Rank.{rank_le}
use Rattle.head.specs.OnHead.{on_head}
use Rattle.subset_table.specs.Scores.{at}
use Rattle.exact.proofs.Picks.{picking_first, picking_room, picking_own, picking_more, picking_all}
use Rattle.exact.proofs.picking.Tables.pick_tips.Goals as goal

pub loop-left-init : goal.loop-left-init
loop-left-init c =
    let tables = c.args.self.now in
    picking_first (on_head c.args.mounted) tables.price (at tables.counts.now) tables.m c.args.all c.args.tips.now
    c.requires.inside (rank_le _ tables.m)

pub pick_tip-tip-requires-clause-inside : goal.pick_tip-tip-requires-clause-inside
pick_tip-tip-requires-clause-inside c = c.loop-left.invariant.inside

-- the tip picked is one of those left, and so it is small
pub overflow_cast-tips : goal.overflow_cast-tips
overflow_cast-tips c =
    let tables = c.args.self.now in
    let own = picking_own (on_head c.args.mounted) tables.price (at tables.counts.now) tables.m c.args.all c.loop-left.invariant
    c.pick_tip-tip.result (omega (arith, c.loop-left-test.true)) c.pick_tip-tip.ensures in
    record { fits = omega (arith, own.1, tables.scored.counted.narrow) }

-- there is a place for the next tip
pub bounds-tips-count : goal.bounds-tips-count
bounds-tips-count c =
    let tables = c.args.self.now in
    let l = c.loop-left in
    let left = picking_room (on_head c.args.mounted) tables.price (at tables.counts.now) tables.m c.args.all l.invariant
    (omega (arith, c.loop-left-test.true)) in
    omega (arith, left, c.requires.room, l.auto.tips)

pub without-left-requires-clause-small : goal.without-left-requires-clause-small
without-left-requires-clause-small c =
    let tables = c.args.self.now in
    let own = picking_own (on_head c.args.mounted) tables.price (at tables.counts.now) tables.m c.args.all c.loop-left.invariant
    c.pick_tip-tip.result (omega (arith, c.loop-left-test.true)) c.pick_tip-tip.ensures in
    omega (arith, own.1, tables.scored.counted.narrow)

pub without-left-requires-clause-own : goal.without-left-requires-clause-own
without-left-requires-clause-own c =
    let tables = c.args.self.now in
    (picking_own (on_head c.args.mounted) tables.price (at tables.counts.now) tables.m c.args.all c.loop-left.invariant
    c.pick_tip-tip.result (omega (arith, c.loop-left-test.true)) c.pick_tip-tip.ensures).0

pub loop-left-preserved : goal.loop-left-preserved
loop-left-preserved c =
    let tables = c.args.self.now in
    let l = c.loop-left in
    let on = on_head c.args.mounted in
    let some : 0 < l.left = omega (arith, c.loop-left-test.true) in
    let left = picking_room on tables.price (at tables.counts.now) tables.m c.args.all l.invariant some in
    let room : l.count < length l.tips = omega (arith, left, c.requires.room, l.auto.tips) in
    rw c.without-left.ensures
    (picking_more on tables.price (at tables.counts.now) tables.m c.args.all l.invariant c.pick_tip-tip.result some room c.pick_tip-tip.ensures)

pub returns-clause-tips : goal.returns-clause-tips
returns-clause-tips c =
    let tables = c.args.self.now in
    let l = c.loop-left in
    let e : l.left ≡ 0 = omega (arith, c.loop-left-test.false) in
    picking_all (on_head c.args.mounted) tables.price (at tables.counts.now) tables.m c.args.all l.invariant e
