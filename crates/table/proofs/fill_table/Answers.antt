use Rattle.std.proofs.Common.{◌≡◌, arith}
use Rattle.table.proofs.Columns.{columns_all}
use Rattle.table.proofs.fill_table.Goals as goal

pub returns : goal.returns
returns c =
    let e : c.loop-b.b ≡ c.args.m = omega arith in
    λ lines k. columns_all k.good.some (rw e at (c.loop-b.invariant lines k))
