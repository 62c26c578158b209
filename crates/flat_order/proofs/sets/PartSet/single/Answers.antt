use Rattle.std.proofs.Common.{◌≡◌, ◌-◌, ◌%◌, arith}
use borrow.Author.Tests.{le-ltb, lt-ltb}
use Rattle.flat_order.specs.Sets.{single}
use Rattle.flat_order.proofs.Members.{shifted}
use Rattle.flat_order.proofs.sets.PartSet.single.Goals as goal

pub returns-then-x-lt64 : goal.returns-then-x-lt64
unfolding single
returns-then-x-lt64 c =
    let x = c.args.x in
    let e : x % 64 ≡ x = omega arith in
    simp (e, shifted x c.if-x-lt64.true, lt-ltb x 64 c.if-x-lt64.true)

pub returns-else-x-lt64 : goal.returns-else-x-lt64
unfolding single
returns-else-x-lt64 c =
    let x = c.args.x in
    let e : x % 64 ≡ x - 64 = omega arith in
    simp (e, shifted (x - 64) (omega arith), le-ltb x 64 c.if-x-lt64.false)
