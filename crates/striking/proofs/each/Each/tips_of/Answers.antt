use Rattle.std.proofs.Common.{◌↔◌, ℕ, T, get_or}
use Rattle.model.specs.Plan.{has}
use Rattle.model.proofs.Lists.{all-at}
use Rattle.model.proofs.Run.{high-below}
use Rattle.striking.specs.Early.{firsts_by, Finds}
use Rattle.striking.proofs.Others.{all-sums, counted}
use Rattle.striking.proofs.Settled.{leaving, asked_domain, settled_all, settled, settled_asked}
use Rattle.striking.proofs.each.Each.tips_of.Goals.{After-first_on-known}
use Rattle.striking.proofs.each.Each.tips_of.Goals as goal

-- the tips that all lines find, for no placements more
found : (c : After-first_on-known) → (t : ℕ)
    → T (has c.first_on-known.result t) ↔ Finds c.args.self.now.all.m (get_or c.args.self.now.lines.now c.args.i 0)
    (firsts_by c.args.self.now.all.m c.args.self.now.all.sums.now c.args.self.now.inner.now c.args.self.now.upper.now 0
    (get_or c.args.self.now.lines.now c.args.i 0) c.args.self.now.goal) t
found c = rw c.args.self.now.no_more at c.first_on-known.ensures

pub invariant_of-line : goal.invariant_of-line
invariant_of-line c =
    let s = c.args.self.now in
    let full = c.requires.full in
    let domain = all-at 0 full.good.domains c.args.i c.requires.line in
    record {
      domain = domain;
      counted = rw s.no_more (counted (all-sums full s.summed) domain);
      inner_size = s.inside.room;
      upper_size = s.outside.room;
      listed = s.listed;
    }

pub returns-then-asked-eq0 : goal.returns-then-asked-eq0
returns-then-asked-eq0 c =
    let s = c.args.self.now in
    let full = c.requires.full in
    settled_all full c.args.i c.requires.line (all-sums full s.summed) s.inside s.outside s.goal c.first_on-known.result
    (found (goal.at.returns-then-asked-eq0 c).After-first_on-known) c.if-asked-eq0.true

pub invariant_of-start : goal.invariant_of-start
invariant_of-start c =
    let s = c.args.self.now in
    let full = c.requires.full in
    let sums = all-sums full s.summed in
    let domain = asked_domain full c.args.i c.requires.line sums s.inside s.outside s.goal c.first_on-known.result
    (found (goal.at.invariant_of-start c).After-first_on-known) c.if-asked-eq0.false in
    record {
      leaving = rw (c.from.ensures, c.lowest.ensures, c.highest.ensures)
          (leaving full c.args.i c.requires.line sums s.inside s.outside (high-below sums.good.most domain));
    }

pub returns-then-not-has_start : goal.returns-then-not-has_start
returns-then-not-has_start c =
    let s = c.args.self.now in
    let full = c.requires.full in
    let sums = all-sums full s.summed in
    let exact = found (goal.at.returns-then-not-has_start c).After-first_on-known in
    let domain = asked_domain full c.args.i c.requires.line sums s.inside s.outside s.goal c.first_on-known.result exact c.if-asked-eq0.false in
    settled full c.args.i c.requires.line sums s.inside s.outside s.goal c.first_on-known.result exact domain
    (rw (c.from.ensures, c.lowest.ensures, c.highest.ensures) at (c.has_start.ensures c.if-not-has_start.true))

pub asked_tips-requires-clause-domain : goal.asked_tips-requires-clause-domain
asked_tips-requires-clause-domain c =
    let s = c.args.self.now in
    let full = c.requires.full in
    asked_domain full c.args.i c.requires.line (all-sums full s.summed) s.inside s.outside s.goal c.first_on-known.result
    (found (goal.at.asked_tips-requires-clause-domain c).After-first_on-known) c.if-asked-eq0.false

pub returns : goal.returns
returns c =
    let s = c.args.self.now in
    let full = c.requires.full in
    settled_asked full c.args.i c.requires.line (all-sums full s.summed) s.inside s.outside s.goal c.first_on-known.result
    (found (goal.at.returns c).After-first_on-known) c.asked_tips.result c.asked_tips.ensures.asked c.asked_tips.ensures.exact
