use Rattle.std.proofs.Common.{◌≡◌, refl, ◌∙◌, arith}
use lib.Arith.{digits_lt}
use Rattle.model.specs.Plan.{has}
use Rattle.model.specs.Renumber.{tip_at}
use Rattle.model.proofs.Rank.{rank_le, tip-at}
use Rattle.checking.proofs.Gather.{gathered_more}
use Rattle.checking.proofs.ranked.Wide.gather_row.Goals.{After-from-in-loop-j}
use Rattle.checking.proofs.ranked.Wide.gather_row.Goals as goal

-- the tips of the two ranks
row_tip : (c : After-from-in-loop-j) → let s = c.args.self.now in c.from.result ≡ tip_at (has s.names) s.m c.args.i
row_tip c = let s = c.args.self.now in c.from.ensures ∙ s.listed.places c.args.i (omega (arith, c.requires.rank, s.counted))

column_tip : (c : After-from-in-loop-j) → let s = c.args.self.now in c.from-in-loop-j.result ≡ tip_at (has s.names) s.m c.loop-j.j
column_tip c = let s = c.args.self.now in c.from-in-loop-j.ensures ∙ s.listed.places c.loop-j.j (omega (arith, s.counted))

pub bounds-self-i : goal.bounds-self-i
bounds-self-i c =
    let s = c.args.self.now in
    omega (arith, c.requires.rank, s.counted, rank_le (has s.names) s.m, s.rack, s.listed.size)

pub bounds-self-j : goal.bounds-self-j
bounds-self-j c =
    let s = c.args.self.now in
    omega (arith, s.counted, rank_le (has s.names) s.m, s.rack, s.listed.size)

pub bounds-self-row : goal.bounds-self-row
bounds-self-row c =
    let s = c.args.self.now in
    let at = (goal.at.bounds-self-row c).After-from-in-loop-j in
    let row = (tip-at (has s.names) s.m c.args.i (omega (arith, c.requires.rank, s.counted))).0 in
    let column = (tip-at (has s.names) s.m c.loop-j.j (omega (arith, s.counted))).0 in
    let inside = digits_lt {q = tip_at (has s.names) s.m c.args.i} {m = s.m} {r = tip_at (has s.names) s.m c.loop-j.j} {c = s.m} row column in
    rw (row_tip at, column_tip at) (omega (arith, inside, s.size))

pub loop-j-preserved : goal.loop-j-preserved
loop-j-preserved c =
    let s = c.args.self.now in
    let at = (goal.at.loop-j-preserved c).After-from-in-loop-j in
    gathered_more c.loop-j.j c.requires.rank (omega arith) (rw (row_tip at, column_tip at) refl) c.loop-j.invariant
