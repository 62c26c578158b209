use Rattle.std.proofs.Common.{◌≡◌, ◌+◌, arith}
use Rattle.table.specs.Cells.{allow, allows_of}
use Rattle.table.proofs.Listed.{listed-first, listed_more}
use Rattle.table.proofs.Source.count_allows.Goals as goal

pub loop-c-init : goal.loop-c-init
loop-c-init c = listed-first _ _

pub loop-c-preserved : goal.loop-c-preserved
loop-c-preserved c =
    rw c.loop-c.invariant
    (listed_more (allow c.args.self.now.m c.args.self.now.sums.now c.args.b) c.loop-c.c c.args.allows.now (omega arith))

pub returns : goal.returns
unfolding allows_of
returns c =
    let e : c.loop-c.c ≡ c.args.b + 1 = omega arith in
    rw e at c.loop-c.invariant
