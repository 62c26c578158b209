use Rattle.std.proofs.Common.{◌≡◌, ◌+◌, ◌<◌, false, true, length, get_or, [], ◌∷◌, ◌++◌, length-append, refl, sym, ap, ◌∙◌, arith, rules}
use Rattle.model.specs.Limits.{most_tips}
use Rattle.model.specs.Count.{list_of, count}
use Rattle.model.specs.Plan.{has, uses, pairs}
use Rattle.model.proofs.Tests.{false_not}
use Rattle.model.proofs.Sets.{has-below}
use Rattle.placements.specs.Repeated.{repeated}
use Rattle.plan_pairs.specs.OnTips.{on_tips}
use Rattle.plan_pairs.proofs.Joined.{placed-all, Joined, joined}
use Rattle.checking.proofs.Claim.{foreign, own_more, own_all}
use Rattle.checking.proofs.Turn.{Over, At, turn, turns}
use Rattle.checking.proofs.claimed.claim_refusal.Goals.{After-into_iter-tip-iterator, In-Some, In-None}
use Rattle.checking.proofs.claimed.claim_refusal.Goals.{then-tip-ge-MOST_TIPS-via-then-tip-ge-MOST_TIPS}
use Rattle.checking.proofs.claimed.claim_refusal.Goals.{then-tip-ge-MOST_TIPS-via-else-tip-ge-MOST_TIPS+then-not-has_tip}
use Rattle.checking.proofs.claimed.claim_refusal.Goals as goal

-- the loop is over the plan, the lines and the quantities
over : (c : After-into_iter-tip-iterator) → Over c.args.plan.now c.args.lines.now c.args.quantities.now c.into_iter-tip-iterator.result
over c = record { first = search rules; second = search rules; third = search rules; as_second = search rules; as_third = search rules }

-- the tip, the line and the quantity of this turn
here : (c : In-Some) → Over c.args.plan.now c.args.lines.now c.args.quantities.now c.into_iter-tip-iterator.result
    → At c.args.plan.now c.args.lines.now c.args.quantities.now (length c.loop-tip.yielded) ((c.in-Some.tip, c.in-Some.line), c.in-Some.quantity)
here c o = turn o c.loop-tip.yielded c.loop-tip.tip-iterator c.next.new.self c.next.result c.loop-tip.yielded_by
    c.next.ensures.steps _ c.in-Some.is

-- and what they find
found : (c : In-Some) → At c.args.plan.now c.args.lines.now c.args.quantities.now (length c.loop-tip.yielded)
    ((c.in-Some.tip, c.in-Some.line), c.in-Some.quantity) → c.in-Some.tip.now < most_tips
    → Joined c.args.quantities.now c.args.plan.now (length c.loop-tip.yielded) c.loop-tip.on c.loop-tip.shared c.in-Some.tip.now
    c.in-Some.quantity.now
found c h narrow =
    joined c.args.quantities.now c.args.plan.now (search rules) c.requires.few h.below h.first h.third narrow
    c.loop-tip.invariant.1 c.loop-tip.invariant.2

pub loop-tip-init : goal.loop-tip-init
unfolding on_tips list_of uses count repeated pairs
loop-tip-init c = (refl, refl, refl)

pub returns-then-tip-ge-MOST_TIPS : goal.returns-then-tip-ge-MOST_TIPS
returns-then-tip-ge-MOST_TIPS c =
    let at = goal.at.returns-then-tip-ge-MOST_TIPS c in
    let h = here at.In-Some (over at.After-into_iter-tip-iterator) in
    let i = length c.loop-tip.yielded in
    let line = get_or c.args.lines.now i 0 in
    let tip = get_or c.args.plan.now i 0 in
    let not_in : has line tip ≡ false
    = elim c.then-tip-ge-MOST_TIPS.branch [
      | then-tip-ge-MOST_TIPS-via-then-tip-ge-MOST_TIPS w ↦
          false_not _ (λ t. absurd (omega (
            arith,
            has-below 64 line tip (c.type_inv.lines i).fits t,
            h,
            w.if-tip-ge-MOST_TIPS.true,
            c.from-tip.ensures,
          )))
      | then-tip-ge-MOST_TIPS-via-else-tip-ge-MOST_TIPS+then-not-has_tip w ↦
          rw (← h.first, ← h.second) (ap (has c.in-Some.line.now) (sym c.from-tip.ensures) ∙ sym w.has_tip.ensures ∙ w.if-not-has_tip.true)
    ] in
    rw c.at.ensures (foreign c.args.quantities.now c.args.lines.now c.args.plan.now c.args.claim c.requires.planned i c.loop-tip.invariant.0
    (omega (arith, h, c.requires)) not_in)

pub join-shared-requires-clause-few : goal.join-shared-requires-clause-few
join-shared-requires-clause-few c =
    let at = goal.at.join-shared-requires-clause-few c in
    let f = found at.In-Some (here at.In-Some (over at.After-into_iter-tip-iterator)) (omega (arith, c.from-tip.ensures)) in
    rw c.from-tip.ensures f.few

pub overflow_add-shared : goal.overflow_add-shared
overflow_add-shared c =
    let at = goal.at.overflow_add-shared c in
    let f = found at.In-Some (here at.In-Some (over at.After-into_iter-tip-iterator)) (omega (arith, c.from-tip.ensures)) in
    record { fits = rw (c.join-shared.ensures.pairs, c.from-tip.ensures) (omega (arith, f.grown, f.small)) }

pub loop-tip-preserved : goal.loop-tip-preserved
loop-tip-preserved c =
    let at = goal.at.loop-tip-preserved c in
    let h = here at.In-Some (over at.After-into_iter-tip-iterator) in
    let f = found at.In-Some h (omega (arith, c.from-tip.ensures)) in
    let n : length (c.loop-tip.yielded ++ (((c.in-Some.tip, c.in-Some.line), c.in-Some.quantity) ∷ [])) ≡ length c.loop-tip.yielded + 1
    = length-append _ _ in
    let own : has (get_or c.args.lines.now (length c.loop-tip.yielded) 0) (get_or c.args.plan.now (length c.loop-tip.yielded) 0) ≡ true
    = rw (← h.first, ← h.second) (ap (has c.in-Some.line.now) (sym c.from-tip.ensures) ∙ sym c.has_tip.ensures ∙ c.if-not-has_tip.false) in
    let more = own_more c.args.quantities.now c.args.lines.now c.args.plan.now c.args.claim c.requires.planned (length c.loop-tip.yielded)
    c.loop-tip.invariant.0 (omega (arith, h, c.requires)) own in
    rw (n, c.join-shared.ensures.on, c.join-shared.ensures.pairs, c.from-tip.ensures) (more, f.counted, f.grown)

pub returns : goal.returns
returns c =
    let o = over (goal.at.returns c).After-into_iter-tip-iterator in
    let n = turns o c.loop-tip.yielded c.loop-tip.tip-iterator c.next.new.self c.next.result c.loop-tip.yielded_by
    c.next.ensures.steps c.in-None.is in
    let all = own_all c.args.quantities.now c.args.lines.now c.args.plan.now c.args.claim c.requires.planned (length c.loop-tip.yielded)
    c.loop-tip.invariant.0 (omega (arith, n, c.requires)) in
    let e = c.loop-tip.invariant.2
    ∙ ap pairs (placed-all c.args.quantities.now c.args.plan.now (search rules) c.requires.few (length c.loop-tip.yielded) (omega (arith, n))) in
    c.refuse_when.ensures ∙ rw e all
