use Rattle.counts.proofs.Sums.{no_sums}
use Rattle.counts.proofs.Picked.{joinable}
use Rattle.counts.proofs.count_tips.Goals as goal

pub add_lines-requires-clause-empty : goal.add_lines-requires-clause-empty
add_lines-requires-clause-empty c = no_sums

pub join-requires : goal.join-requires
join-requires c = joinable c.requires c.add_lines.ensures
