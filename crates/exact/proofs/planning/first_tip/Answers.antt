use Rattle.std.proofs.Common.{sym, ap, ◌∙◌, arith}
use Rattle.model.specs.Plan.{has}
use Rattle.model.proofs.Lists.{all-at}
use Rattle.exact.proofs.Firsts.{first_found, first_passed, first-end}
use Rattle.exact.proofs.planning.first_tip.Goals as goal

pub has_tip-requires : goal.has_tip-requires
has_tip-requires c = omega (arith, c.from.ensures, all-at 0 c.requires c.loop-tip.tip-index c.loop-tip-test.true)

pub returns-then-has_tip : goal.returns-then-has_tip
returns-then-has_tip c =
    let l = c.loop-tip in
    let is = sym (ap (has c.args.line) c.from.ensures) ∙ sym c.has_tip.ensures ∙ c.if-has_tip.true in
    sym (l.invariant ∙ first_found c.args.tips.now c.args.line l.tip-index c.loop-tip-test.true is)

pub loop-tip-preserved : goal.loop-tip-preserved
loop-tip-preserved c =
    let l = c.loop-tip in
    let is = sym (ap (has c.args.line) c.from.ensures) ∙ sym c.has_tip.ensures ∙ c.if-has_tip.false in
    l.invariant ∙ first_passed c.args.tips.now c.args.line l.tip-index c.loop-tip-test.true is

pub returns : goal.returns
returns c =
    let l = c.loop-tip in
    sym (l.invariant ∙ first-end c.args.tips.now c.args.line l.tip-index (omega (arith, c.loop-tip-test.false)))
