use Rattle.std.proofs.Common.{arith, rules, ◌≡◌, ◌<◌, ◌+◌, [], ◌∷◌, ◌++◌, length, length-append, get_or, refl, ap, ◌∙◌}
use Rattle.std.proofs.lemmas.Slice.Zip.{zip_turn, zip_end}
use Rattle.model.specs.Count.{list_of, count}
use Rattle.model.specs.Plan.{uses, pairs}
use Rattle.model.proofs.Lists.{all-at}
use Rattle.placements.specs.Repeated.{repeated}
use Rattle.plan_pairs.specs.OnTips.{on_tips}
use Rattle.plan_pairs.proofs.Joined.{placed-all, Joined, joined}
use Rattle.plan_pairs.proofs.count_pairs.Goals.{In-Some}
use Rattle.plan_pairs.proofs.count_pairs.Goals as goal

-- what this turn finds at its line
found : (c : In-Some)
    → Joined c.args.quantities.now c.args.plan.now (length c.loop-tip.yielded) c.loop-tip.on c.loop-tip.shared c.in-Some.field-0-0.now
    c.in-Some.field-0-1.now
found c =
    let qs = c.args.quantities.now in
    let plan = c.args.plan.now in
    let i = length c.loop-tip.yielded in
    let (below, _, tip, quantity) = zip_turn plan qs c.loop-tip.yielded
    c.into_iter-tip-iterator.result c.loop-tip.tip-iterator c.next.new.self c.next.result (search rules) (search rules)
    c.loop-tip.yielded_by (c.in-Some.field-0-0, c.in-Some.field-0-1) c.in-Some.is c.next.ensures.steps in
    let narrow = all-at 0 c.requires.tips i below in
    joined qs plan c.requires.as_lines c.requires.few below (tip 0) (quantity 0) (rw (tip 0) narrow) c.loop-tip.invariant.0 c.loop-tip.invariant.1

pub loop-tip-init : goal.loop-tip-init
unfolding on_tips list_of uses count repeated pairs
loop-tip-init c = (refl, refl)

pub join-shared-requires-clause-tip : goal.join-shared-requires-clause-tip
join-shared-requires-clause-tip c =
    let f = found (goal.at.join-shared-requires-clause-tip c).In-Some in
    omega (arith, f.narrow, c.from.ensures)

pub join-shared-requires-clause-few : goal.join-shared-requires-clause-few
join-shared-requires-clause-few c =
    let f = found (goal.at.join-shared-requires-clause-few c).In-Some in
    rw c.from.ensures f.few

pub overflow_add-shared : goal.overflow_add-shared
overflow_add-shared c =
    let f = found (goal.at.overflow_add-shared c).In-Some in
    record { fits = rw (c.join-shared.ensures.pairs, c.from.ensures) (omega (arith, f.grown, f.small)) }

pub loop-tip-preserved : goal.loop-tip-preserved
loop-tip-preserved c =
    let f = found (goal.at.loop-tip-preserved c).In-Some in
    let n : length (c.loop-tip.yielded ++ ((c.in-Some.field-0-0, c.in-Some.field-0-1) ∷ [])) ≡ length c.loop-tip.yielded + 1
    = length-append _ _ in
    rw (n, c.join-shared.ensures.on, c.join-shared.ensures.pairs, c.from.ensures) (f.counted, f.grown)

pub returns : goal.returns
returns c =
    let qs = c.args.quantities.now in
    let plan = c.args.plan.now in
    let all = zip_end plan qs c.loop-tip.yielded
    c.into_iter-tip-iterator.result c.loop-tip.tip-iterator c.next.new.self c.next.result (search rules) (search rules)
    c.loop-tip.yielded_by c.in-None.is c.next.ensures.steps in
    c.loop-tip.invariant.1 ∙ ap pairs (placed-all qs plan c.requires.as_lines c.requires.few (length c.loop-tip.yielded)
    (omega (arith, all, c.requires.as_lines)))
