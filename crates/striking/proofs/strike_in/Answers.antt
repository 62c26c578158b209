use Rattle.std.proofs.Common.{refl, ◌∙◌, rules, arith}
use Rattle.placements.specs.Repeated.{repeated}
use Rattle.spans.proofs.Read.{run_ready}
use Rattle.striking.proofs.Others.{all-sums}
use Rattle.intervals.proofs.Entry.{inside-all}
use Rattle.striking.proofs.Kept.{goal_missed, goal-met}
use Rattle.striking.proofs.strike_in.Goals as goal

pub fill_table-requires-clause-runs : goal.fill_table-requires-clause-runs
fill_table-requires-clause-runs g c =
    let l = c.args.lines in
    (repeated l.quantities.now l.sets.now, all-sums c.requires.full c.sum_spans.ensures)

pub fill_table-requires-clause-cells : goal.fill_table-requires-clause-cells
fill_table-requires-clause-cells g c = search rules

pub invariant_of-all : goal.invariant_of-all
invariant_of-all g c = record { ready = run_ready (all-sums c.requires.full c.sum_spans.ensures) }

pub returns-then-entry_at-from-clause-answer : goal.returns-then-entry_at-from-clause-answer
returns-then-entry_at-from-clause-answer g c =
    let l = c.args.lines in
    let i = inside-all (c.fill_table.ensures _ (all-sums c.requires.full c.sum_spans.ensures)) in
    let most = c.entry_at.ensures.entry ∙ i.entries 0 l.rack (omega arith) in
    rw c.at.ensures (goal_missed l.rack l.quantities.now l.sets.now c.args.goal c.args.struck.now
    (omega (arith, most, c.from.ensures, c.if-entry_at-from.true))).0

pub returns-then-entry_at-from-clause-struck : goal.returns-then-entry_at-from-clause-struck
returns-then-entry_at-from-clause-struck g c =
    let l = c.args.lines in
    let i = inside-all (c.fill_table.ensures _ (all-sums c.requires.full c.sum_spans.ensures)) in
    let most = c.entry_at.ensures.entry ∙ i.entries 0 l.rack (omega arith) in
    (goal_missed l.rack l.quantities.now l.sets.now c.args.goal c.args.struck.now
    (omega (arith, most, c.from.ensures, c.if-entry_at-from.true))).1

pub fill_outside-requires-clause-known : goal.fill_outside-requires-clause-known
fill_outside-requires-clause-known g c =
    let l = c.args.lines in
    let placed = repeated l.quantities.now l.sets.now in
    (placed, all-sums c.requires.full c.sum_spans.ensures, inside-all (c.fill_table.ensures placed (all-sums c.requires.full c.sum_spans.ensures)))

pub invariant_of-each : goal.invariant_of-each
invariant_of-each g c =
    let l = c.args.lines in
    let placed = repeated l.quantities.now l.sets.now in
    let i = inside-all (c.fill_table.ensures placed (all-sums c.requires.full c.sum_spans.ensures)) in
    let most = c.entry_at.ensures.entry ∙ i.entries 0 l.rack (omega arith) in
    record {
      no_more = refl;
      summed = c.sum_spans.ensures;
      inside = i;
      outside = c.fill_outside.ensures placed (all-sums c.requires.full c.sum_spans.ensures) i;
      listed = c.list_widest.ensures;
      reached = omega (arith, most, c.from.ensures, c.if-entry_at-from.false);
    }

pub returns-clause-answer : goal.returns-clause-answer
returns-clause-answer g c =
    let l = c.args.lines in
    let i = inside-all (c.fill_table.ensures _ (all-sums c.requires.full c.sum_spans.ensures)) in
    let most = c.entry_at.ensures.entry ∙ i.entries 0 l.rack (omega arith) in
    (goal-met l.rack l.quantities.now l.sets.now c.args.goal c.args.struck.now
    (omega (arith, most, c.from.ensures, c.if-entry_at-from.false))).0

pub returns-clause-struck : goal.returns-clause-struck
returns-clause-struck g c =
    let l = c.args.lines in
    let i = inside-all (c.fill_table.ensures _ (all-sums c.requires.full c.sum_spans.ensures)) in
    let most = c.entry_at.ensures.entry ∙ i.entries 0 l.rack (omega arith) in
    c.strike.ensures
    ∙ (goal-met l.rack l.quantities.now l.sets.now c.args.goal c.args.struck.now
    (omega (arith, most, c.from.ensures, c.if-entry_at-from.false))).1
