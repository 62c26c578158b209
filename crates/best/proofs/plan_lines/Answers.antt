use Rattle.std.proofs.Common.{◌≡◌, ◌-◌, ◌∙◌, ap, get_or}
use Rattle.model.specs.Interval.{table as table_of}
use Rattle.model.proofs.Table.{table-last}
use Rattle.placements.specs.Repeated.{repeated}
use Rattle.ranks.proofs.Runs.{all_full}
use Rattle.best.proofs.plan_lines.Goals as goal
use Rattle.best.proofs.plan_lines.Goals.{then-names-between, else-names-between}

pub invariant_of-full : goal.invariant_of-full
invariant_of-full c =
    record { runs = all_full c.requires.runs c.names_of-names.ensures (c.if-names-between.true ∙ c.between.ensures) }

-- the first row's last place has the pairs
pub returns-clause-answer : goal.returns-clause-answer
returns-clause-answer c =
    let a = c.args in
    let lines = repeated a.quantities.now a.sets.now in
    let filled : c.if-names-between.table ≡ table_of a.m lines =
    elim c.if-names-between.branch [
      | then-names-between w ↦ w.table-is ∙ w.plan_runs.ensures.table
      | else-names-between w ↦ w.table-is ∙ w.plan_named.ensures.table
    ] in
    ap (λ t. get_or t (a.m - 1) 0) filled ∙ table-last a.m lines c.requires.runs.good.some
