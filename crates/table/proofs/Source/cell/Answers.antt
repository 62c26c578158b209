use Rattle.table.proofs.Parts.{split_lists, by_parts}
use Rattle.table.proofs.Source.cell.Goals as goal

pub invariant_of-others : goal.invariant_of-others
invariant_of-others c = record { lists = split_lists c.requires }

pub returns : goal.returns
returns c = by_parts c.requires c.split_of-first.ensures.value c.largest.ensures
