use Rattle.std.proofs.Common.{◌+◌, ap, get_or, ◌∙◌, arith}
use lib.ListN.{length-set, length-replicate}
use Rattle.flat_order.specs.declared.sets.PartSet.{PartSet}
use Rattle.flat_order.specs.Sets.{no_parts}
use Rattle.flat_order.proofs.Below.{places_none, places_more}
use Rattle.flat_order.proofs.positions.by_position.Goals as goal

pub loop-i-init : goal.loop-i-init
loop-i-init g c = record {
  size = length-replicate {A = PartSet} g.row.ENDS no_parts;
  places = places_none (λ x. get_or c.args.positions.now x 0 + 1) g.row.ENDS;
}

pub loop-i-preserved : goal.loop-i-preserved
loop-i-preserved g c =
    let l = c.loop-i in
    let i = l.invariant in
    record {
      size = length-set l.sets _ _ ∙ i.size;
      places = rw (c.bitor.ensures, c.single.ensures)
          (places_more (λ x. get_or c.args.positions.now x 0 + 1) l.i l.sets _ (ap (λ v. v + 1) c.from-at.ensures)
          (omega (arith, i.size, c.requires.room, c.from-at.ensures, c.requires.within l.i c.loop-i-test.true)) i.places);
    }
