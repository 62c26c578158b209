use Rattle.std.proofs.Common.{arith, length, take, sym, ◌∙◌}
use lib.Seq.{length-take-le}
use Rattle.few_tips.proofs.Sums.{weighted_le}
use Rattle.model.specs.Plan.{has}
use Rattle.junior.proofs.Passed.{serves_padded, passed_none, passed_some}
use Rattle.junior.proofs.on_tips.Goals as goal

pub returns-then-not-each_used : goal.returns-then-not-each_used
returns-then-not-each_used c =
    let p = c.requires in
    let n = length c.args.quantities.now in
    let sets = c.args.sets.now in
    let same = sym (length-take-le n sets p.padded.0) in
    let served = sym (serves_padded n sets c.args.u c.args.v (omega arith) p.padded.1) ∙ sym p.served in
    passed_none c.args.quantities.now (take n sets) same c.args.u c.args.v served p.all c.with_tip-with_u.ensures c.with_tip-with_v.ensures p.ordered
    (sym c.each_used.ensures ∙ c.if-not-each_used.true)

pub side_pairs-to_u-requires-clause-on : goal.side_pairs-to_u-requires-clause-on
side_pairs-to_u-requires-clause-on c =
    let n = length c.args.quantities.now in
    omega (arith, c.requires.all, c.with_tip-with_u.ensures, weighted_le (λ s. has s c.args.u) c.args.quantities.now (take n c.args.sets.now))

pub side_pairs-to_v-requires-clause-on : goal.side_pairs-to_v-requires-clause-on
side_pairs-to_v-requires-clause-on c =
    let n = length c.args.quantities.now in
    omega (arith, c.requires.all, c.with_tip-with_v.ensures, weighted_le (λ s. has s c.args.v) c.args.quantities.now (take n c.args.sets.now))

pub returns : goal.returns
returns c =
    let p = c.requires in
    let n = length c.args.quantities.now in
    let sets = c.args.sets.now in
    let same = sym (length-take-le n sets p.padded.0) in
    let served = sym (serves_padded n sets c.args.u c.args.v (omega arith) p.padded.1) ∙ sym p.served in
    rw (c.max-pairs.ensures, c.side_pairs-to_u.ensures, c.side_pairs-to_v.ensures)
    (passed_some c.args.quantities.now (take n sets) same c.args.u c.args.v served p.all c.with_tip-with_u.ensures c.with_tip-with_v.ensures p.ordered
    (sym c.each_used.ensures ∙ c.if-not-each_used.false))
