use Rattle.std.proofs.Common.{◌≡◌, ◌<◌, ◌≤◌, ◌++◌, length, take, drop, get_or, refl, rules, sym, ap, ap₂, ◌∙◌, arith}
use Rattle.head.specs.OnHead.{on_head}
use Rattle.along.specs.Along.{fewest_from, plan_from, fewest, plan_along}
use Rattle.along.proofs.Along.{along_rule}
use Rattle.along.proofs.Filled.{segment_in, first_plan, first-fewest, more_plan, more_fewest, more_past, done_plan, done_fewest}
use Rattle.along.proofs.plan_along.Goals as goal

pub loop-at-init : goal.loop-at-init
loop-at-init c =
    let s = c.lay_segment-at.ensures in
    let a = c.args in
    let h = segment_in a.sets.now a.plan.now 0 c.start_set.result (omega arith) c.requires.room in
    (omega (arith, h.1, s.end), omega arith, search rules, refl, omega arith)

pub loop-at-smaller : goal.loop-at-smaller
loop-at-smaller c =
    let a = c.args in
    let l = c.loop-at in
    let now : l.at < length a.sets.now = c.loop-at-test.true in
    let past = more_past a.sets.now l.plan l.at now l.invariant.2 c.requires.domains in
    omega (arith, c.lay_segment-at-in-loop-at.ensures.end, past, now)

pub loop-at-preserved : goal.loop-at-preserved
loop-at-preserved c =
    let s = c.lay_segment-at-in-loop-at in
    let sets = c.args.sets.now in
    let l = c.loop-at in
    let now : l.at < length sets = c.loop-at-test.true in
    let good = c.requires.domains in
    let e = s.ensures.end in
    let past = more_past sets l.plan l.at now l.invariant.2 good in
    let h = segment_in sets l.plan l.at (get_or sets l.at 0) (omega arith) l.invariant.2 in (
      omega (arith, h.1, e),
      omega (arith, past, e, l.invariant.1),
      search rules,
      l.invariant.3 ∙ more_plan sets l.plan l.at now l.invariant.2 good
          ∙ ap₂ (λ x q. take x q ++ plan_from 0 (drop x sets)) (sym e) (sym s.ensures.plan),
      omega (
        arith,
        l.invariant.4,
        more_fewest sets l.plan l.at now l.invariant.2 good,
        ap (λ x. fewest_from 0 (drop x sets)) e,
      ),
    )

pub returns-clause-changes : goal.returns-clause-changes
unfolding fewest
returns-clause-changes c =
    let l = c.loop-at in
    let sets = c.args.sets.now in
    let k = c.start_set.result in
    let s = c.lay_segment-at.ensures in
    let all : length sets ≤ l.at = omega (arith, c.loop-at-test.false) in
    let counted : l.changes ≡ fewest_from k sets =
    omega (
      arith,
      l.invariant.4,
      first-fewest sets k,
      ap (λ x. fewest_from 0 (drop x sets)) s.end,
      done_fewest sets l.plan l.at all,
    ) in
    counted ∙ ap (λ x. fewest_from x sets) c.start_set.ensures

pub returns-clause-plan : goal.returns-clause-plan
unfolding plan_along
returns-clause-plan c =
    let l = c.loop-at in
    let sets = c.args.sets.now in
    let k = c.start_set.result in
    let s = c.lay_segment-at.ensures in
    let all : length sets ≤ l.at = omega (arith, c.loop-at-test.false) in
    let made = sym (first_plan sets c.args.plan.now k c.requires.room
    ∙ ap₂ (λ x q. take x q ++ plan_from 0 (drop x sets)) (sym s.end) (sym s.plan)
    ∙ l.invariant.3 ∙ done_plan sets l.plan l.at all l.invariant.2) in
    made ∙ ap (λ x. plan_from x sets) c.start_set.ensures

pub returns-clause-rule : goal.returns-clause-rule
returns-clause-rule c = rw (returns-clause-changes c, returns-clause-plan c) (along_rule (on_head c.args.mounted) c.requires.domains)
