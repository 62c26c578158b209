use Rattle.std.proofs.Common.{◌≡◌, ◌+◌, refl, ap, ◌∙◌, arith}
use Rattle.model.specs.Plan.{has}
use Rattle.model.specs.Renumber.{rank}
use Rattle.model.proofs.Names.{names-named}
use Rattle.model.proofs.Rank.{rank_le}
use Rattle.ranks.proofs.Listed.{rank_next}
use Rattle.exact.proofs.count_named.Goals as goal

pub loop-t-init : goal.loop-t-init
unfolding rank
loop-t-init c = refl

pub overflow_add-count : goal.overflow_add-count
overflow_add-count c =
    let ok = has c.names_of-names.result in
    let l = c.loop-t in
    let next = rank_next ok l.t l.invariant c.has_tip.ensures c.from-count.ensures in
    record { fits = omega (arith, next, rank_le ok (l.t + 1), c.loop-t-test.true, c.requires) }

pub loop-t-preserved : goal.loop-t-preserved
loop-t-preserved c = rank_next (has c.names_of-names.result) c.loop-t.t c.loop-t.invariant c.has_tip.ensures c.from-count.ensures

pub returns : goal.returns
returns c =
    let l = c.loop-t in
    let m = c.args.m in
    let e : l.t ≡ m = omega arith in
    l.invariant
    ∙ ap (rank (has c.names_of-names.result)) e
    ∙ ap (λ u. rank (has u) m) c.names_of-names.ensures
    ∙ ap (λ ok. rank ok m) (names-named c.args.sets.now)
