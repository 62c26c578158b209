use Rattle.std.proofs.Common.{◌≤◌, ◌<◌, ◌^◌, refl, arith}
use lib.Pow.{pow_mono}
use Rattle.model.specs.CommonTip.{set_of}
use Rattle.model.proofs.Sets.{set_of_lt}
use Rattle.subset_rules.specs.Exact.{most_named}
use Rattle.subset_table.specs.Scores.{tied_at}
use Rattle.exact.proofs.Picks.{set_of-more, bit_is}
use Rattle.exact.proofs.picking.Tables.tied_tips.Goals as goal
use Rattle.exact.proofs.picking.Tables.tied_tips.Goals.{then-is_tied, else-is_tied}

pub loop-t-init : goal.loop-t-init
unfolding set_of
loop-t-init c = refl

-- a tip of the rack is small
small : (c : goal.Then-is_tied) → c.loop-t.t < most_named
small c = omega (arith, c.loop-t-test.true, c.args.self.now.scored.counted.narrow)

pub overflow_add-set : goal.overflow_add-set
overflow_add-set c =
    let tables = c.args.self.now in
    let l = c.loop-t in
    let tied = tied_at tables.price tables.counts.now tables.scores.now c.args.u in
    let few : 2 ^ l.t ≤ 2 ^ 20 = pow_mono {j = 20} (omega (arith, small c)) in
    record { fits = omega (arith, l.invariant, set_of_lt tied l.t, few, bit_is l.t (omega (arith, small c))) }

pub loop-t-preserved : goal.loop-t-preserved
loop-t-preserved c =
    let tables = c.args.self.now in
    let l = c.loop-t in
    let tied = tied_at tables.price tables.counts.now tables.scores.now c.args.u in
    elim c.if-is_tied.branch [
      | then-is_tied w ↦
          let bit = bit_is l.t (omega (arith, c.loop-t-test.true, tables.scored.counted.narrow)) in
          rw (w.set-is, set_of-more tied l.t, ← l.invariant, ← c.is_tied.ensures, w.if-is_tied.true) (omega (arith, bit))
      | else-is_tied w ↦ rw (w.set-is, set_of-more tied l.t, ← l.invariant, ← c.is_tied.ensures, w.if-is_tied.false) (omega arith)
    ]
