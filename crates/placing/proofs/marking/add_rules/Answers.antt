use Rattle.std.proofs.Common.{◌≡◌, ◌<◌, T, true, false, not, refl, sym, ◌∙◌, length, arith}
use Rattle.order_rules.specs.Parts.{rule_ok}
use Rattle.placing.proofs.Marks.{marked_none, marked_more, marked_bad, marked_all}
use Rattle.placing.proofs.marking.add_rules.Goals as goal

pub loop-place-init : goal.loop-place-init
loop-place-init g c = λ rules r. marked_none c.args.n c.args.rows.now

pub returns-then-not-is_rule_ok-clause-err : goal.returns-then-not-is_rule_ok-clause-err
returns-then-not-is_rule_ok-clause-err g c =
    λ rules r.
    let l = c.loop-place in
    let rule = c.rule_at-rule.result in
    let i : l.place < length rules = omega (arith, r.size) in
    let e = r.each l.place rule c.loop-place-test.true c.rule_at-rule.ensures in
    let bad : rule_ok c.args.n rule ≡ false = sym c.is_rule_ok.ensures.test ∙ c.if-not-is_rule_ok.true in
    let t : T (not (rule_ok c.args.n rule)) = rw bad tt in
    rw c.at.ensures (refl, i, marked_bad c.args.n c.args.rows.now l.rows rules l.place i (l.invariant rules r) rule e t)

pub loop-place-preserved : goal.loop-place-preserved
loop-place-preserved g c =
    λ rules r.
    let l = c.loop-place in
    let rule = c.rule_at-rule.result in
    let i : l.place < length rules = omega (arith, r.size) in
    let e = r.each l.place rule c.loop-place-test.true c.rule_at-rule.ensures in
    let good : rule_ok c.args.n rule ≡ true = sym c.is_rule_ok.ensures.test ∙ c.if-not-is_rule_ok.false in
    let t : T (rule_ok c.args.n rule) = rw good tt in
    rw (c.bitor.ensures, c.single.ensures)
    (marked_more c.args.n c.args.rows.now l.rows rules l.place i (l.invariant rules r) rule e t c.requires.room)

pub returns-clause-ok : goal.returns-clause-ok
returns-clause-ok g c =
    λ rules r.
    let l = c.loop-place in
    marked_all c.args.n c.args.rows.now l.rows rules l.place (omega (arith, r.size)) (l.invariant rules r)
