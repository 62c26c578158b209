use Rattle.std.proofs.Common.{◌≡◌, ◌+◌, ◌-◌, true, refl, sym, ap, ◌∙◌, arith}
use Rattle.model.specs.Count.{every}
use Rattle.model.specs.Plan.{choose2}
use Rattle.spans.specs.Spans.{inside_by}
use Rattle.checking.specs.Checking.{end_by}
use Rattle.checking.proofs.Ends.{rows, row_at, first_fits, first_fails, other_ends, end_lists, ends_same}
use Rattle.checking.proofs.tabled.Foreign.first_bounded.Goals.{After-from, Else-entry_at-from}
use Rattle.checking.proofs.tabled.Foreign.first_bounded.Goals as goal

-- the pairs on the tip, of the interval that ends there
own : (c : After-from) → c.from.result ≡ choose2 (inside_by c.args.self.now.m c.args.self.now.sums.now c.args.a (c.args.c + 1 - c.args.a) c.args.c)
own c = c.from.ensures ∙ c.pairs_among-here.ensures ∙ ap choose2 c.inside_at.ensures

-- that interval's split is at most its entry
first : (c : Else-entry_at-from) → c.from.result ≡ choose2 (inside_by c.args.self.now.m c.args.self.now.sums.now c.args.a
    (c.args.c + 1 - c.args.a) c.args.c)
    → end_by c.args.self.now.m c.args.self.now.sums.now c.args.self.now.table.now c.args.a c.args.c (c.args.c + 0) ≡ true
first c o = first_fits c.args.self.now.ready c.args.a c.args.c c.requires.from c.requires.inside o c.entry_at-left.ensures.entry
    c.entry_at.ensures.entry c.if-entry_at-from.false

pub inside_at-requires : goal.inside_at-requires
inside_at-requires c = c.args.self.now.ready.sums.summed c.args.a (c.args.c + 1 - c.args.a) c.args.c (omega arith) (omega arith) (omega arith)

pub returns-then-entry_at-from : goal.returns-then-entry_at-from
returns-then-entry_at-from c =
    sym (first_fails c.args.self.now.ready c.args.a c.args.c c.requires.from c.requires.inside
    (own (goal.at.returns-then-entry_at-from c).After-from) c.entry_at-left.ensures.entry c.entry_at.ensures.entry c.if-entry_at-from.true)

pub returns-then-next-m : goal.returns-then-next-m
unfolding every
returns-then-next-m c =
    let at = goal.at.returns-then-next-m c in
    let f = first at.Else-entry_at-from (own at.After-from) in
    let z : c.args.self.now.m - (c.args.c + 1) ≡ 0 = omega arith in
    rw (other_ends c.args.self.now.ready c.args.a c.args.c c.requires.from c.requires.inside f, z) refl

pub slice_bounds-first_sums-end : goal.slice_bounds-first_sums-end
slice_bounds-first_sums-end c =
    omega (arith, rows c.args.self.now.ready c.args.a c.args.c c.requires.from c.requires.inside (omega arith))

pub slice_bounds-next_sums-end : goal.slice_bounds-next_sums-end
slice_bounds-next_sums-end c =
    omega (arith, rows c.args.self.now.ready c.args.a c.args.c c.requires.from c.requires.inside (omega arith))

pub invariant_of-splits : goal.invariant_of-splits
invariant_of-splits c =
    let ready = c.args.self.now.ready in
    let left = c.entry_at-left.ensures in
    let there = row_at ready c.args.a c.args.c c.requires.from c.requires.inside (omega arith) in
    record {
      lists = end_lists ready c.args.a c.args.c c.requires.from c.requires.inside (omega arith) (omega arith) (omega (arith, there))
          left.entry left.narrow;
    }

pub returns : goal.returns
returns c =
    let ready = c.args.self.now.ready in
    let at = goal.at.returns c in
    let left = c.entry_at-left.ensures in
    let there = row_at ready c.args.a c.args.c c.requires.from c.requires.inside (omega arith) in
    let same = ends_same ready c.args.a c.args.c c.requires.from c.requires.inside (omega arith) (omega arith) (omega (arith, there))
    left.entry left.narrow in
    let f = first at.Else-entry_at-from (own at.After-from) in
    c.bounded.ensures ∙ same ∙ sym (other_ends ready c.args.a c.args.c c.requires.from c.requires.inside f)
