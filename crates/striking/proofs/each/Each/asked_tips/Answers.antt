use Rattle.placements.specs.Repeated.{repeated}
use Rattle.goal_rules.specs.Goal.{others}
use Rattle.spans.specs.Spans.{RunSums}
use Rattle.striking.specs.Striking.{Known}
use Rattle.spans.proofs.Read.{run_ready}
use Rattle.striking.proofs.Others.{all-sums, counted, removable, rest-sums}
use Rattle.striking.proofs.Kept.{known, kept_iff}
use Rattle.striking.proofs.each.Each.asked_tips.Goals.{After-from}
use Rattle.striking.proofs.each.Each.asked_tips.Goals as goal

-- the sums of the others, with the line's own quantity
sums-of : (c : After-from) → RunSums c.args.self.now.all.m c.from.result
    (others c.args.self.now.quantities.now c.args.self.now.lines.now c.args.i) c.sums_without.new.rest
sums-of c = rw c.from.ensures (rest-sums c.requires.full c.args.i c.requires.line c.args.self.now.summed c.sums_without.ensures)

-- and the two tables of all lines
known-of : (c : After-from) → Known c.args.self.now.all.m c.from.result
    (repeated c.args.self.now.quantities.now c.args.self.now.lines.now)
    (others c.args.self.now.quantities.now c.args.self.now.lines.now c.args.i) c.sums_without.new.rest c.args.self.now.inner.now
    c.args.self.now.upper.now
known-of c =
    let s = c.args.self.now in
    let full = c.requires.full in
    rw c.from.ensures (known full c.args.i c.requires.line (all-sums full s.summed)
    (rest-sums full c.args.i c.requires.line s.summed c.sums_without.ensures) s.inside s.outside)

pub sums_without-requires-clause-removable : goal.sums_without-requires-clause-removable
sums_without-requires-clause-removable c = rw c.args.self.now.summed (removable c.requires.full c.args.i c.requires.line)

pub invariant_of-others : goal.invariant_of-others
invariant_of-others c = record { ready = run_ready (sums-of (goal.at.invariant_of-others c).After-from) }

pub invariant_of-reach : goal.invariant_of-reach
invariant_of-reach c =
    let s = c.args.self.now in
    record {
      domain = c.requires.domain;
      counted = counted (sums-of (goal.at.invariant_of-reach c).After-from) c.requires.domain;
      inner_size = s.inside.room;
      upper_size = s.outside.room;
      listed = s.listed;
    }

pub kept_tips-requires-clause-known : goal.kept_tips-requires-clause-known
kept_tips-requires-clause-known c =
    let s = c.args.self.now in (
      repeated s.quantities.now s.lines.now,
      others s.quantities.now s.lines.now c.args.i,
      known-of (goal.at.kept_tips-requires-clause-known c).After-from,
    )

pub returns-clause-asked : goal.returns-clause-asked
returns-clause-asked c = λ t h.
    let s = c.args.self.now in
    let all = repeated s.quantities.now s.lines.now in
    let rest = others s.quantities.now s.lines.now c.args.i in
    ((c.kept_tips.ensures all rest (known-of (goal.at.returns-clause-asked c).After-from) t).0 h).0

pub returns-clause-exact : goal.returns-clause-exact
returns-clause-exact c =
    let s = c.args.self.now in
    let full = c.requires.full in
    let all = repeated s.quantities.now s.lines.now in
    let rest = others s.quantities.now s.lines.now c.args.i in
    let kept = c.kept_tips.ensures all rest (known-of (goal.at.returns-clause-exact c).After-from) in
    kept_iff full c.args.i c.requires.line (all-sums full s.summed)
    (rest-sums full c.args.i c.requires.line s.summed c.sums_without.ensures) s.inside s.outside c.args.asked c.requires.domain s.goal _
    (rw c.from.ensures at kept)
