use Rattle.std.proofs.Common.{◌≡◌, T, max, rules, arith}
use Rattle.model.specs.Plan.{has}
use Rattle.subset_table.proofs.Trying.{trying_first, trying_more, trying_all, trying_lowest}
use Rattle.subset_table.proofs.scoring.best_score.Goals as goal

pub loop-rest-init : goal.loop-rest-init
loop-rest-init c = trying_first c.args.price c.args.counts.now c.args.scores.now c.args.u

pub score_with-requires-clause-own : goal.score_with-requires-clause-own
score_with-requires-clause-own c =
    let r = c.loop-rest.invariant in
    let tip = trying_lowest c.requires c.loop-rest.rest (omega (arith, c.loop-rest-test.true)) r.below in
    r.own _ (rw c.lowest-t.ensures tip.1)

pub without-rest-requires-clause-small : goal.without-rest-requires-clause-small
without-rest-requires-clause-small c =
    let r = c.loop-rest.invariant in
    let tip = trying_lowest c.requires c.loop-rest.rest (omega (arith, c.loop-rest-test.true)) r.below in
    omega (arith, c.lowest-t.ensures, tip.0)

pub without-rest-requires-clause-own : goal.without-rest-requires-clause-own
without-rest-requires-clause-own c =
    let r = c.loop-rest.invariant in
    let tip = trying_lowest c.requires c.loop-rest.rest (omega (arith, c.loop-rest-test.true)) r.below in
    rw c.lowest-t.ensures tip.1

pub loop-rest-preserved : goal.loop-rest-preserved
loop-rest-preserved c =
    let l = c.loop-rest in
    let r = l.invariant in
    let tip = trying_lowest c.requires l.rest (omega (arith, c.loop-rest-test.true)) r.below in
    let own : T (has l.rest c.lowest-t.result) = rw c.lowest-t.ensures tip.1 in
    let e : c.max-best.result ≡ max l.best c.score_with.result = search rules in
    rw (c.without-rest.ensures, e) (trying_more c.args.price c.args.counts.now c.args.scores.now c.args.u r c.lowest-t.result
    c.score_with.result own c.score_with.ensures)

pub returns : goal.returns
returns c =
    let l = c.loop-rest in
    trying_all c.args.price c.args.counts.now c.args.scores.now c.args.u l.invariant (omega (arith, c.loop-rest-test.false))
