use Rattle.counts.proofs.Sums.{seven_adders}
use Rattle.counts.proofs.adders.add_eight.Goals as goal

pub returns : goal.returns
returns c =
    seven_adders
    c.add_three-a.ensures
    c.add_three-b.ensures
    c.add_three-c.ensures
    c.add_three-d.ensures
    c.add_three-e.ensures
    c.add_three-f.ensures
    c.add_three-g.ensures
