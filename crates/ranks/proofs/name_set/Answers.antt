use Rattle.std.proofs.Common.{◌∙◌, sym, get_or, arith}
use Rattle.model.specs.Plan.{has}
use Rattle.model.proofs.Run.{low-high, high-below}
use Rattle.ranks.proofs.Joined.{bit_is, joined_more, joined_none, joined_past}
use Rattle.ranks.proofs.name_set.Goals as goal

pub overflow_add-rank-end : goal.overflow_add-rank-end
overflow_add-rank-end c = record { fits = omega (arith, c.highest-rank-end.ensures, high-below (omega arith) c.requires.domain) }

pub loop-rank-init : goal.loop-rank-init
loop-rank-init c = sym (joined_none c.args.list.now c.args.set c.lowest-rank.result (omega (arith, c.lowest-rank.ensures)))

pub has_tip-requires : goal.has_tip-requires
has_tip-requires c = omega (arith, c.highest-rank-end.ensures, c.loop-rank-test.true, high-below (omega arith) c.requires.domain)

pub bounds-list-rank : goal.bounds-list-rank
bounds-list-rank c =
    omega (arith, c.highest-rank-end.ensures, c.loop-rank-test.true, c.requires.size, high-below (omega arith) c.requires.domain)

pub loop-rank-preserved : goal.loop-rank-preserved
loop-rank-preserved c =
    let list = c.args.list.now in
    let tip = get_or list c.loop-rank.rank 0 in
    let few = c.requires.below c.loop-rank.rank (omega (arith, c.loop-rank-test.true, c.highest-rank-end.ensures)) in
    let more = joined_more list c.args.set c.loop-rank.rank in
    rw (c.from.ensures, c.has_tip.ensures, bit_is (has c.args.set c.loop-rank.rank) tip few, c.loop-rank.invariant) (sym more)

pub returns : goal.returns
returns c =
    let d = c.requires.domain in
    let last = c.loop-rank.auto.rank-end (omega (arith, c.lowest-rank.ensures, c.highest-rank-end.ensures, low-high (omega arith) d)) in
    c.loop-rank.invariant
    ∙ joined_past c.args.list.now c.args.set d c.loop-rank.rank (omega (arith, c.highest-rank-end.ensures))
    (omega (arith, c.highest-rank-end.ensures, last, high-below (omega arith) d))
