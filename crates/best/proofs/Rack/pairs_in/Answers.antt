use native.Mathlib.Omega.{arith}
use mathlib.Core.Path.{◌∙◌}
use Rattle.ranks.proofs.Runs.{all_full}
use Rattle.best.proofs.Ranks.{full_room, last_place, pairs_full, pairs-are}
use Rattle.best.proofs.Rack.pairs_in.Goals as goal

pub invariant_of-full : goal.invariant_of-full
invariant_of-full g c =
    let p = c.requires.lent in
    record { runs = all_full p.runs p.named (c.if-self-between.true ∙ c.between.ensures) }

pub whole_as_front-plan_runs : goal.whole_as_front-plan_runs
whole_as_front-plan_runs g c =
    let p = c.requires.lent in
    (full_room p.runs p.named (c.if-self-between.true ∙ c.between.ensures) c.requires.room, omega (arith, c.requires.few))

pub cell_at-requires : goal.cell_at-requires
cell_at-requires g c = last_place c.requires.lent.runs _ c.plan_runs.ensures.table

pub returns-then-self-between-clause-pairs : goal.returns-then-self-between-clause-pairs
returns-then-self-between-clause-pairs g c = c.cell_at.ensures ∙ pairs_full c.requires.lent.runs _ c.plan_runs.ensures.table

pub returns-else-self-between-clause-pairs : goal.returns-else-self-between-clause-pairs
returns-else-self-between-clause-pairs g c =
    let p = c.requires.lent in
    let e = c.plan_by_ranks-count.ensures in
    c.cell_at-else-self-between.ensures ∙ pairs-are p.runs p.named e.size c.plan_by_ranks-count.new.table e.table
