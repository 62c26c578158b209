use Rattle.std.proofs.Common.{arith, ◌∙◌}
use Rattle.counts.proofs.Read.{largest-top, tips-W}
use Rattle.common_tip.proofs.Laws.{top-total}
use Rattle.common_tip.proofs.common_tip.Goals as goal

pub common_by-requires-clause-n : goal.common_by-requires-clause-n
common_by-requires-clause-n c =
    let rack = c.args.rack in
    omega (arith, c.total.ensures, largest-top c.count_tips-planes.ensures rack, top-total rack c.requires.countable)

pub returns-clause-top : goal.returns-clause-top
returns-clause-top c = c.common_by.ensures.top ∙ largest-top c.count_tips-planes.ensures c.args.rack

pub returns-clause-tips : goal.returns-clause-tips
returns-clause-tips c =
    let top = c.common_by.ensures.top ∙ largest-top c.count_tips-planes.ensures c.args.rack in
    c.common_by.ensures.tips ∙ tips-W c.count_tips-planes.ensures c.args.rack top
