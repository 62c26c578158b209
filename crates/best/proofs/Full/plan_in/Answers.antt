use Rattle.std.proofs.Common.{◌∙◌, arith}
use Rattle.placements.specs.Repeated.{repeated}
use Rattle.head.specs.OnHead.{on_head}
use Rattle.spans.proofs.Read.{placed_sums}
use Rattle.layout.proofs.Picks.{searchable}
use Rattle.best.proofs.Placed.{plan_placed}
use Rattle.best.proofs.Full.plan_in.Goals as goal

pub whole_as_front-sums : goal.whole_as_front-sums
whole_as_front-sums g c = (omega (arith, c.sums_size.ensures, c.requires.sums), omega (arith, c.requires.few))

pub fill_table-requires-clause-runs : goal.fill_table-requires-clause-runs
fill_table-requires-clause-runs g c =
    let s = c.args.self.now in
    (repeated s.quantities.now s.sets.now, placed_sums s.runs.good s.runs.runs c.sum_spans.ensures)

pub whole_as_slice-plan_lines : goal.whole_as_slice-plan_lines
whole_as_slice-plan_lines g c = omega (arith, c.requires.few)

pub invariant_of-counted : goal.invariant_of-counted
invariant_of-counted g c =
    let s = c.args.self.now in
    let sums = placed_sums s.runs.good s.runs.runs c.sum_spans.ensures in
    record { searchable = searchable sums (c.fill_table.ensures (repeated s.quantities.now s.sets.now) sums) }

pub returns : goal.returns
returns g c =
    let s = c.args.self.now in
    let lines = repeated s.quantities.now s.sets.now in
    let sums = placed_sums s.runs.good s.runs.runs c.sum_spans.ensures in
    let filled = c.fill_table.ensures lines sums in
    record { plan = c.plan_lines.ensures lines sums filled ∙ plan_placed s.runs (on_head s.mounted); table = filled }
