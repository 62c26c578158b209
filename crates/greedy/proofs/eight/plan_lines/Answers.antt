use Rattle.few_tips.proofs.Narrow.{few_narrow}
use Rattle.greedy.proofs.eight.plan_lines.Goals as goal

pub narrow_sets-requires-clause-narrow : goal.narrow_sets-requires-clause-narrow
narrow_sets-requires-clause-narrow c = few_narrow c.requires.shareable.good.domains c.requires.narrow
