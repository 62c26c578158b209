use Rattle.std.proofs.Common.{refl, sym, ◌∙◌}
use Rattle.model.proofs.Valid.{valid_length}
use Rattle.along.specs.Counts.{counts_of}
use Rattle.along.proofs.Along.{along_tips, rack_tips}
use Rattle.along.proofs.plan_lines.Goals as goal

pub plan_along-changes-requires : goal.plan_along-changes-requires
plan_along-changes-requires c =
    let good = c.args.lines.good in
    record { room = c.requires; domains = rack_tips good.most good.domains }

pub count_pairs-pairs-requires-clause-as_lines : goal.count_pairs-pairs-requires-clause-as_lines
count_pairs-pairs-requires-clause-as_lines c =
    c.args.lines.good.same ∙ sym (valid_length c.plan_along-changes.ensures.rule.valid)

pub count_pairs-pairs-requires-clause-tips : goal.count_pairs-pairs-requires-clause-tips
count_pairs-pairs-requires-clause-tips c =
    let good = c.args.lines.good in
    rw c.plan_along-changes.ensures.plan (along_tips _ (rack_tips good.most good.domains))

pub count_pairs-pairs-requires-clause-few : goal.count_pairs-pairs-requires-clause-few
count_pairs-pairs-requires-clause-few c = c.args.lines.good.few

pub returns-clause-counts : goal.returns-clause-counts
unfolding counts_of
returns-clause-counts c =
    let laid = c.plan_along-changes.ensures in
    rw (c.count_pairs-pairs.ensures, laid.changes, laid.plan) refl
