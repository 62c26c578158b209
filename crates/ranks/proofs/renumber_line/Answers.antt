use Rattle.std.proofs.Common.{◌∙◌, arith}
use Rattle.model.proofs.Run.{low-high, high-below}
use Rattle.ranks.specs.Listed.{run_by}
use Rattle.ranks.proofs.renumber_line.Goals as goal

pub bounds-ranks-lowest : goal.bounds-ranks-lowest
bounds-ranks-lowest c =
    let p = c.requires in
    omega (arith, c.lowest.ensures, low-high (omega arith) p.domain, high-below (omega arith) p.domain, p.size)

pub bounds-ranks-highest : goal.bounds-ranks-highest
bounds-ranks-highest c = let p = c.requires in omega (arith, c.highest.ensures, high-below (omega arith) p.domain, p.size)

pub returns : goal.returns
unfolding run_by
returns c = c.between.ensures ∙ rw (c.from-low.ensures, c.from-high.ensures, c.lowest.ensures, c.highest.ensures)
