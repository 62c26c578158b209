use Rattle.std.proofs.Common.{arith, refl, sym, ◌∙◌}
use mathlib.Core.List.{zip_with}
use Rattle.placements.proofs.Loops.{zipped-more, zipped-all}
use Rattle.greedy.specs.Rounds.{placed}
use Rattle.greedy.proofs.FewTips.{zip-plan_by}
use Rattle.greedy.proofs.eight.place_lines.Goals as goal

pub loop-i-init : goal.loop-i-init
unfolding zip_with
loop-i-init c = refl

pub loop-i-preserved : goal.loop-i-preserved
loop-i-preserved c =
    let at = c.loop-i in
    let f = placed c.args.tip in
    rw (c.tip_after.ensures, at.invariant) (zipped-more f c.args.left.now c.args.plan.now at.i (sym c.requires.size) (omega arith))

pub returns : goal.returns
returns c =
    let at = c.loop-i in
    let f = placed c.args.tip in
    let left = c.args.left.now in
    let plan = c.args.plan.now in
    at.invariant ∙ zipped-all f left plan at.i (sym c.requires.size) (omega arith) ∙ zip-plan_by f left plan c.requires.size
