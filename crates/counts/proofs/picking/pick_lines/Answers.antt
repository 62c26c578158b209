use Rattle.std.proofs.Common.{get_or, refl, ap, ◌∙◌}
use mathlib.Core.List.{zip_with}
use Rattle.std.proofs.Math.ListN.{set}
use Rattle.counts.specs.Picked.{pick_by}
use Rattle.counts.proofs.Picked.{zip_more}
use Rattle.counts.proofs.picking.pick_lines.Goals as goal

pub loop-i-init : goal.loop-i-init
unfolding zip_with
loop-i-init c = refl

pub loop-i-preserved : goal.loop-i-preserved
loop-i-preserved c =
    let i = c.loop-i.i in
    let f = pick_by c.args.j in
    let qs = c.args.quantities.now in
    let lines = c.args.lines.now in
    let more = zip_more f qs lines c.args.chosen.now i c.requires.same c.loop-i-test.true c.requires.room in
    rw c.pick.ensures (ap (λ x. set x i (f (get_or qs i 0) (get_or lines i 0))) c.loop-i.invariant ∙ more)
