use Rattle.std.proofs.Common.{arith, refl, ap, sym, ◌∙◌}
use mathlib.Core.List.{zip_with}
use lib.IntN.{pos}
use lib.Signed.{lt_z}
use mir.Syntax.{w32}
use mir.Val.{to_z, of_z}
use mir.ValLaws.{to_z-of_z}
use Rattle.placements.proofs.Loops.{zipped-more}
use Rattle.common_tip.specs.Common.{kept_by}
use Rattle.common_tip.proofs.Laws.{prune-each, prune-none}
use Rattle.common_tip.proofs.prune.Goals as goal

pub returns-then-margin-lt1 : goal.returns-then-margin-lt1
returns-then-margin-lt1 c =
    let below = ap (λ z. lt_z z (pos 1)) (sym (to_z-of_z w32 c.args.margin c.ranges.margin)) ∙ c.if-margin-lt1.true in
    c.narrow_all.ensures ∙ prune-each c.args.v c.args.margin c.requires.placed c.args.lines.now c.requires.same below

pub returns-then-n-lines : goal.returns-then-n-lines
returns-then-n-lines c =
    let above = ap (λ z. lt_z z (pos 1)) (sym (to_z-of_z w32 c.args.margin c.ranges.margin)) ∙ c.if-margin-lt1.false in
    prune-none c.args.v c.args.margin c.requires.placed c.args.lines.now c.requires.same above (omega arith)

pub loop-i-init : goal.loop-i-init
unfolding zip_with
loop-i-init c = refl

pub loop-i-preserved : goal.loop-i-preserved
loop-i-preserved c =
    let f = kept_by c.args.v (to_z w32 (of_z w32 c.args.margin)) in
    let more = zipped-more f c.args.quantities.now c.args.lines.now c.loop-i.i c.requires.same (omega arith) in
    rw (c.kept.ensures, c.loop-i.invariant) more
