use Rattle.std.proofs.Common.{◌<◌, arith}
use Rattle.model.proofs.Run.{low-high, high-below}
use Rattle.striking.proofs.reach.Reach.widest_live.Goals.{Start}
use Rattle.striking.proofs.reach.Reach.widest_live.Goals as goal

-- the first tip is in the rack
first-in : (c : Start) → c.args.a < c.args.self.now.lines.m
first-in c =
    let s = c.args.self.now in
    omega (arith, c.requires, low-high s.lines.ready.rack s.domain, high-below s.lines.ready.rack s.domain)

pub bounds-self-a : goal.bounds-self-a
bounds-self-a c = omega (arith, c.args.self.now.listed.room, first-in (goal.at.bounds-self-a c).Start)

pub returns-clause-inside : goal.returns-clause-inside
returns-clause-inside c =
    omega (arith, c.from.ensures, c.args.self.now.listed.inside c.args.a (first-in (goal.at.returns-clause-inside c).Start))

pub returns-clause-past : goal.returns-clause-past
returns-clause-past c = λ w h g.
    c.args.self.now.listed.past c.args.a w (first-in (goal.at.returns-clause-past c).Start) h (omega (arith, c.from.ensures))
