use Rattle.std.proofs.Common.{◌+◌, ◌*◌, ◌≤◌, suc, length, arith}
use borrow.Rule.Slice.PartMut.{mid_len}
use native.Mathlib.Nat.{mul-le-mul_right, suc-mul}
use Rattle.layout.proofs.Places.{unwritten, block_out, row_more}
use Rattle.layout.proofs.Counted.own_runs.Goals as goal

pub loop-lo-init : goal.loop-lo-init
loop-lo-init c =
    let a = c.args in
    let m = a.self.now.m in
    let tip = a.a + a.i in
    unwritten m _ _ a.owner.now (omega arith) (λ x y t. omega (arith, block_out a.a a.a tip (a.a + a.w) x y t))

pub loop-lo-preserved : goal.loop-lo-preserved
loop-lo-preserved c =
    let a = c.args in
    let m = a.self.now.m in
    let l = c.loop-lo in
    let tip = a.a + a.i in
    let start = l.lo * m + tip in
    let end = l.lo * m + (a.a + a.w) in
    let row : suc l.lo ≤ m = omega arith in
    let within : end ≤ length a.owner.now = omega (arith, mul-le-mul_right m row, suc-mul l.lo m) in
    rw (c.fill.ensures.after (λ y e. e), mid_len start end l.owner (omega (arith, within)), l.invariant)
    (row_more m a.a l.lo tip (a.a + a.w) tip a.owner.now (omega arith) (omega arith) (omega arith) (omega arith) within)
